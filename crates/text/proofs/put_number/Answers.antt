-- `text::put_number` meets its contract: what is left of the bytes is still to be written.
use Rattle.std.proofs.Common.{ℕ, ◌<◌, List, length, ap, ◌∙◌, add-zero, arith}
use Rattle.text.specs.Text.{byte_text, list_text}
use Rattle.text.specs.Line.{written}
use Rattle.text.proofs.Words.{byte-length, word_list}
use Rattle.text.proofs.Lists.{list_step, list_done}
use Rattle.text.proofs.put_number.Goals as goal

pub loop-i-init : goal.loop-i-init
loop-i-init c = rw add-zero

pub loop-i-preserved : goal.loop-i-preserved
loop-i-preserved c =
    let h : c.loop-i.i < length c.to_be_bytes.result = omega (arith, ap length c.to_be_bytes.ensures) in
    list_step byte_text 2 byte-length c.to_be_bytes.result c.loop-i.i _ _ _ c.loop-i.invariant 0 _ h c.put_byte.ensures

pub returns : goal.returns
returns c =
    let a = c.args in
    list_done byte_text 2 byte-length c.to_be_bytes.result c.loop-i.i _ _ _ c.loop-i.invariant (omega (arith, ap length c.to_be_bytes.ensures))
    ∙ ap (λ (l : List ℕ). written a.out.now a.at (list_text byte_text l)) c.to_be_bytes.ensures
    ∙ ap (written a.out.now a.at) (word_list 8 a.x)
