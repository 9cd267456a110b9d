use Rattle.std.proofs.Common.{Some, None, vec_items, sym, arith}
use Rattle.inspection.proofs.Bytes.{unhex_odd, after_none, after_more, after_broken, after_all, still_even, read_as}
use Rattle.inspection.specs.Spelling.{unhex}
use Rattle.inspection.proofs.digits.from_hex.Goals as goal

pub returns-then-line-ne0 : goal.returns-then-line-ne0
returns-then-line-ne0 c =
    let e = sym (unhex_odd c.args.line.now (omega arith)) in
    record { value = e; spelled = read_as c.args.line.now None e }

pub loop-rest-init : goal.loop-rest-init
loop-rest-init c = (rw c.in_ok-bytes.ensures.items (after_none (unhex c.args.line.now)), omega arith)

pub returns-in_default-byte_value : goal.returns-in_default-byte_value
returns-in_default-byte_value c =
    let e = after_broken c.args.line.now (vec_items c.loop-rest.bytes) c.loop-rest.rest.now c.in-len2-up.len_at_least c.loop-rest.invariant.0 c.in_default-byte_value.ensures in
    record { value = e; spelled = read_as c.args.line.now None e }

pub loop-rest-preserved : goal.loop-rest-preserved
loop-rest-preserved c =
    let rest = c.loop-rest.rest.now in
    let more = after_more c.args.line.now (vec_items c.loop-rest.bytes) rest c.in-len2-up.len_at_least c.loop-rest.invariant.0 c.in-Some.byte c.in-Some.ensures in
    (rw c.in_ok-push.ensures.items more, still_even rest c.in-len2-up.len_at_least c.loop-rest.invariant.1)

pub returns : goal.returns
returns c =
    let e = after_all c.args.line.now (vec_items c.loop-rest.bytes) c.loop-rest.rest.now (omega (arith, c.loop-rest.invariant.1)) c.loop-rest.invariant.0 in
    record { value = e; spelled = read_as c.args.line.now (Some (vec_items c.loop-rest.bytes)) e }
