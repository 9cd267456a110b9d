-- Which frame the queue hands out, and which frames stay.
use Rattle.std.proofs.Common.{◌≡◌, ℕ, List, Some, None, vec_items, Option, sym, refl, ap, ◌∙◌, arith}
use Rattle.std.proofs.lemmas.List.{length-map}
use Rattle.link.specs.Frames.{Frame, NoneFor}
use Rattle.link.specs.Packets.{frame_of}
use Rattle.fifo.specs.IsLink.{appended, full, too_long, Means, waited, took}
use Rattle.fifo.specs.Means.{fifo_waiting}
use Rattle.fifo.specs.Laws.{FifoLaws}

none_waits : (w w' : List Frame) (a : ℕ) (o : Option (List ℕ)) → NoneFor a w → Means w a o w' → o ≡ None
none_waits w w' a None none s = refl
none_waits w w' a (Some b) none s = absurd (none b (waited w w' a b s))

pub fifo_laws : FifoLaws
fifo_laws = record {
  oldest = λ l l' a b t. took (fifo_waiting l) (fifo_waiting l') a (Some b) t;
  nothing = λ l l' a t. took (fifo_waiting l) (fifo_waiting l') a None t;
  none_waits = λ l l' a o none t. none_waits (fifo_waiting l) (fifo_waiting l') a o none (took (fifo_waiting l) (fifo_waiting l') a o t);
  appended = λ l l' a b p. appended (fifo_waiting l) (fifo_waiting l') a b p;
  full = λ l l' a b p h. full (fifo_waiting l) (fifo_waiting l') a b p (omega arith);
  too_long = λ l l' a b p. too_long (fifo_waiting l) (fifo_waiting l') a b p;
  bound = λ l. omega (arith, length-map (vec_items l.frames) frame_of, l.frames.ok.0, l.size);
  one_take = λ l l' m' a o p t u. let e = t ∙ sym u in (ap (λ r. r.0) e, ap (λ r. r.1) e);
  one_put = λ l l' m' a b p q. p ∙ sym q;
}
