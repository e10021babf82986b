use Rattle.std.proofs.Common.{sym, ◌∙◌, arith}
use Rattle.satip_ts.proofs.HexDigits.{length-digits, front_is}
use Rattle.satip_script.proofs.TextLemmas.{no_first, first_tested, or_first, or_second}
use Rattle.satip_script.proofs.messages.begins_with_newline.Goals as goal

pub returns-then-digits-lt2-clause-test : goal.returns-then-digits-lt2-clause-test
returns-then-digits-lt2-clause-test c = λ text h.
    let len = length-digits c.args.digits.now text h in
    no_first text (omega (arith, len, c.if-digits-lt2.true))

pub returns-then-byte-eq13-clause-test : goal.returns-then-byte-eq13-clause-test
returns-then-byte-eq13-clause-test c = λ text h.
    let len = length-digits c.args.digits.now text h in
    let out = front_is c.args.digits.now text _ c.decode_to_slice.new.out _ h c.if-digits-lt2.false c.split_at.ensures.front c.decode_to_slice.ensures.value in
    or_first _ c.if-byte-eq13.true ∙ sym (first_tested text c.decode_to_slice.new.out (omega (arith, len, c.if-digits-lt2.false)) out)

pub returns-else-byte-eq13-clause-test : goal.returns-else-byte-eq13-clause-test
returns-else-byte-eq13-clause-test c = λ text h.
    let len = length-digits c.args.digits.now text h in
    let out = front_is c.args.digits.now text _ c.decode_to_slice.new.out _ h c.if-digits-lt2.false c.split_at.ensures.front c.decode_to_slice.ensures.value in
    or_second _ c.if-byte-eq13.false ∙ sym (first_tested text c.decode_to_slice.new.out (omega (arith, len, c.if-digits-lt2.false)) out)
