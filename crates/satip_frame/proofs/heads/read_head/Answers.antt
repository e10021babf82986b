use Rattle.std.proofs.Common.{◌≡◌, ◌≤◌, Some, None, length, sym, ap, ◌∙◌, arith}
use Rattle.satip_frame.specs.Said.{body_length}
use Rattle.satip_frame.proofs.HeadLemmas.{line_of_head, block_of_head, headers_of_head, head_from_parts}
use Rattle.satip_frame.proofs.heads.read_head.Goals as goal

pub returns-in_default-clause-none : goal.returns-in_default-clause-none
returns-in_default-clause-none c = λ m n good. c.in_default.ensures.none (_, _, line_of_head good.reads)

pub returns-in_default-read_block-clause-none : goal.returns-in_default-read_block-clause-none
returns-in_default-read_block-clause-none c = λ m n good.
    let few : length good.reads.fields ≤ length c.args.headers.now = omega (arith, good.reads.few) in
    c.in_default-read_block.ensures.only good.reads.fields good.reads.last (block_of_head c.in-Some.ensures.found good.reads) few

pub returns-in_default-body_length-clause-none : goal.returns-in_default-body_length-clause-none
returns-in_default-body_length-clause-none c = λ m n good.
    let few : length good.reads.fields ≤ length c.args.headers.now = omega (arith, good.reads.few) in
    let found = c.in-Some.ensures.found in
    let section = c.in-Some-read_block.ensures.only good.reads.fields good.reads.last (block_of_head found good.reads) few in
    let headers = headers_of_head found good.reads c.read_block.new.headers c.in-Some-read_block.count section in
    let both : None ≡ Some n = c.in_default-body_length.ensures.value ∙ ap body_length (sym headers) ∙ good.body in
    cc

pub returns-clause-found : goal.returns-clause-found
returns-clause-found c =
    let block = c.in-Some-read_block.ensures.found in
    let few : c.in-Some-read_block.count ≤ 64 = omega (arith, c.in-Some-read_block.ensures.counted) in
    record {
      reads = head_from_parts c.in-Some.ensures.found c.read_block.new.headers c.in-Some-read_block.count block.0 block.1 block.2 few;
      body = sym c.in-Some-body_length.ensures.value;
    }
