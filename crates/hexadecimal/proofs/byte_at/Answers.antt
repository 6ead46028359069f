-- `hexadecimal::byte_at` meets its contract: the two digits, or no byte past the end.
use Rattle.std.proofs.Common.{sym, arith}
use Rattle.hexadecimal.proofs.Bytes.{byte_past, byte_of_pair}
use Rattle.hexadecimal.proofs.byte_at.Goals as goal

pub returns-in-Some : goal.returns-in-Some
returns-in-Some c =
    let pair = c.in-Some.field-0.now in
    byte_of_pair _ _ _ pair _ _ c.as_chunks.ensures.front (omega (arith, c.in-Some.ensures.lookup)) c.in-Some.ensures.lookup.1 c.value.ensures.value c.value-in-Some.ensures.value

pub returns-in-None : goal.returns-in-None
returns-in-None c = sym (byte_past _ _ (omega (arith, c.in-None.ensures.lookup, c.as_chunks.ensures.front_len)))
