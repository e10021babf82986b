use Rattle.std.proofs.Common.{◌≡◌, ◌<◌, List, ℕ, length, arith, ap, sym, subst}
use Rattle.satip_base.proofs.NumberLemmas.{length-decimal_u64}
use Rattle.satip_entry_writer.specs.Lines.{entry_line}
use Rattle.satip_entry_writer.specs.Sheets.{Sheet}
use Rattle.satip_entry_writer.proofs.Bounds.{◌and◌, digits, line_bound, record_bound, whole}
use Rattle.satip_entry_writer.proofs.lines.write_entry.Goals as goal

pub encode_record-requires : goal.encode_record-requires
encode_record-requires c =
    let empty : c.clear.new.self.spare ≡ 1048576 = ap (λ (s : Sheet). s.spare) c.clear.ensures.empty in
    record {
      room = omega (
        arith,
        record_bound c.args.event.now c.args.answer.now c.args.out.now c.known_event.ensures.value c.count-count.ensures.room,
        empty,
        c.write.ensures.wrote.spare,
        c.write_number.ensures.wrote.spare,
        c.write-2.ensures.wrote.spare,
        c.write_number-2.ensures.wrote.spare,
        c.write-3.ensures.wrote.spare,
        length-decimal_u64,
      );
    }

pub end-requires : goal.end-requires
end-requires c =
    let empty : c.clear.new.self.spare ≡ 1048576 = ap (λ (s : Sheet). s.spare) c.clear.ensures.empty in
    record {
      room = omega (
        arith,
        record_bound c.args.event.now c.args.answer.now c.args.out.now c.known_event.ensures.value c.count-count.ensures.room,
        empty,
        c.write.ensures.wrote.spare,
        c.write_number.ensures.wrote.spare,
        c.write-2.ensures.wrote.spare,
        c.write_number-2.ensures.wrote.spare,
        c.write-3.ensures.wrote.spare,
        c.encode_record.ensures.wrote.spare,
        length-decimal_u64,
      );
    }

pub returns-clause-short : goal.returns-clause-short
unfolding entry_line
returns-clause-short c =
    let line : c.end.new.self.text ≡ entry_line c.args.place c.args.caller c.args.event.now c.args.answer.now c.args.out.now.reply c.args.out.now.datagrams =
    whole c.clear.ensures.empty (
    c.write.ensures.wrote and c.write_number.ensures.wrote and c.write-2.ensures.wrote and c.write_number-2.ensures.wrote
    and c.write-3.ensures.wrote and digits c.encode_record.ensures.wrote and c.end.ensures.wrote)
    in
    subst (λ (t : List ℕ). length t < 800000) (sym line) (
    line_bound c.args.place c.args.caller c.args.event.now c.args.answer.now c.args.out.now c.ranges.place.fits c.ranges.caller.fits
    c.known_event.ensures.value c.count-count.ensures.room)
