use Rattle.std.proofs.Common.{◌≡◌, ℕ, ◌<◌, List, [], ◌∷◌, ◌++◌, length, ◌∙◌, inl, inr, arith, subst}
use Rattle.bounded.specs.Lists.{Held}
use Rattle.bounded.proofs.Room.{appended}
use Rattle.layout.specs.Numbers.{big, laid, reading, writing}
use Rattle.layout.proofs.Rows.{exact_read, exact_write, length_laid}
use Rattle.layout.proofs.bytes.content_bytes.Goals as goal

pub returns-in_err-read_bytes : goal.returns-in_err-read_bytes
returns-in_err-read_bytes c =
    let n = length_laid reading exact_read.long c.args.content.now.reads.now in
    let h : 36 < length (laid reading c.args.content.now.reads.now) = subst (Held 36 (laid reading c.args.content.now.reads.now)) c.in_err-read_bytes.was c.rows_bytes.ensures in
    rw c.from_residual.ensures (inl (omega arith))

pub returns-in_err-write_bytes : goal.returns-in_err-write_bytes
returns-in_err-write_bytes c =
    let n = length_laid writing exact_write.long c.args.content.now.writes.now in
    let h : 32 < length (laid writing c.args.content.now.writes.now) = subst (Held 32 (laid writing c.args.content.now.writes.now)) c.in_err-write_bytes.was c.rows_bytes-2.ensures in
    rw c.from_residual-in_err-write_bytes.ensures (inr (omega arith))

pub overflow_cast-reads : goal.overflow_cast-reads
overflow_cast-reads c =
    let n = length_laid reading exact_read.long c.args.content.now.reads.now in
    let h = c.in_ok-read_bytes.ensures.0 in
    omega arith

pub overflow_cast-writes : goal.overflow_cast-writes
overflow_cast-writes c =
    let n = length_laid writing exact_write.long c.args.content.now.writes.now in
    let h = c.in_ok-write_bytes.ensures.0 in
    omega arith

pub returns : goal.returns
returns c =
    let rs = c.args.content.now.reads.now in
    let ws = c.args.content.now.writes.now in
    let nr = length_laid reading exact_read.long rs in
    let nw = length_laid writing exact_write.long ws in
    let hr = c.in_ok-read_bytes.ensures.0 in
    let hw = c.in_ok-write_bytes.ensures.0 in
    let counts : List ℕ = length rs ∷ length ws ∷ [] in
    let second : c.extend.new.self ≡ big c.args.content.now.second =
    appended 74 c.to_be_bytes.result c.empty-bytes.result c.extend.new.self c.extend.result c.unwrap.result c.unwrap.ensures c.extend.ensures
    ∙ (λ i. c.empty-bytes.ensures i ++ c.to_be_bytes.ensures i) in
    let counted = appended 74 counts c.extend.new.self c.extend-2.new.self c.extend-2.result c.unwrap-2.result c.unwrap-2.ensures c.extend-2.ensures in
    let reads = appended 74 c.as_slice.result.now c.extend-2.new.self c.extend-3.new.self c.extend-3.result c.unwrap-3.result c.unwrap-3.ensures c.extend-3.ensures in
    let writes = appended 74 c.as_slice-2.result.now c.extend-3.new.self c.extend-4.new.self c.extend-4.result c.unwrap-4.result c.unwrap-4.ensures c.extend-4.ensures in
    let laid_reads : c.as_slice.result.now ≡ laid reading rs = c.as_slice.ensures.items ∙ c.in_ok-read_bytes.ensures.1 in
    let laid_writes : c.as_slice-2.result.now ≡ laid writing ws = c.as_slice-2.ensures.items ∙ c.in_ok-write_bytes.ensures.1 in (
      omega arith,
      omega arith,
      writes ∙ (λ i. reads i ++ laid_writes i) ∙ (λ i. (counted i ++ laid_reads i) ++ laid writing ws) ∙ (λ i. ((second i ++ counts) ++ laid reading rs) ++ laid writing ws),
    )
