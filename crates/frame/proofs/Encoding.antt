-- The bytes of at most four rows fit, and are whole rows.
use Rattle.std.proofs.Common.{◌≡◌, ℕ, ◌%◌, ◌≤◌, List, length, Option, ap, ◌∙◌, arith}
use Rattle.std.specs.Option.{IsSome}
use Rattle.bounded.specs.Lists.{Held}
use Rattle.bounded.proofs.Room.{held}
use Rattle.content.specs.declared.content.Content.{Content}
use Rattle.content.specs.declared.rows.Read.{Read}
use Rattle.content.specs.declared.rows.Write.{Write}
use Rattle.content.specs.Contents.{body}
use Rattle.content.proofs.Whole.{sound_tested}
use Rattle.layout.specs.Numbers.{laid, reading, writing}
use Rattle.layout.proofs.Rows.{exact_read, exact_write, length_laid}

pub few_reads : (c : Content) → length c.stored.reads ≤ 4
few_reads c = (sound_tested.only (body c) c.ok).few_reads

pub few_writes : (c : Content) → length c.stored.writes ≤ 4
few_writes c = (sound_tested.only (body c) c.ok).few_writes

pub reads_fit : (rs : List Read) (o : Option (List ℕ)) → Held 36 (laid reading rs) o → length rs ≤ 4 → IsSome o
reads_fit rs o h few = let n = length_laid reading exact_read.long rs in held 36 (laid reading rs) o (omega arith) h

pub writes_fit : (ws : List Write) (o : Option (List ℕ)) → Held 32 (laid writing ws) o → length ws ≤ 4 → IsSome o
writes_fit ws o h few = let n = length_laid writing exact_write.long ws in held 32 (laid writing ws) o (omega arith) h

pub whole_reads : (rs : List Read) (b : List ℕ) → b ≡ laid reading rs → length b % 9 ≡ 0
whole_reads rs b e = let n = ap length e ∙ length_laid reading exact_read.long rs in omega arith

pub whole_writes : (ws : List Write) (b : List ℕ) → b ≡ laid writing ws → length b % 8 ≡ 0
whole_writes ws b e = let n = ap length e ∙ length_laid writing exact_write.long ws in omega arith

pub ruleset encoding = (few_reads, few_writes, reads_fit, writes_fit, whole_reads, whole_writes)
