use Rattle.std.proofs.Common.{sym, ◌∙◌}
use Rattle.inspection.proofs.Bytes.{byte_there, no_byte}
use Rattle.inspection.proofs.digits.byte_value.Goals as goal

pub returns-in_err-byte : goal.returns-in_err-byte
returns-in_err-byte c = c.from_residual.ensures ∙ no_byte c.args.high c.args.low c.from_hex.result c.from_hex.ensures (sym c.ok.ensures.value ∙ c.in_err-byte.was)

pub returns : goal.returns
returns c = byte_there c.args.high c.args.low c.from_hex.result c.from_hex.ensures c.in_ok-byte.field-0 (sym c.ok.ensures.value ∙ c.in_ok-byte.was)
