use Rattle.std.proofs.Common.{◌≡◌, ◌≤◌, length, Some, None, ◌∙◌, arith}
use Rattle.satip_client.proofs.HeadLemmas.{block-of, end-of, body-of, only-head, head-from}
use Rattle.satip_client.proofs.heads.read_head.Goals as goal

pub returns-in_default-read_block-clause-only : goal.returns-in_default-read_block-clause-only
returns-in_default-read_block-clause-only c = λ h size has.
    let few : length h.fields ≤ length c.args.headers.now = omega (arith, has.is_head.few) in
    c.in_default-read_block.ensures.only h.fields h.last has.rest (block-of c.in-Some.ensures.found has) few

pub returns-then-end-gt-HEAD_LIMIT-clause-only : goal.returns-then-end-gt-HEAD_LIMIT-clause-only
returns-then-end-gt-HEAD_LIMIT-clause-only c = λ h size has.
    let few : length h.fields ≤ length c.args.headers.now = omega (arith, has.is_head.few) in
    let at = c.in-Some.ensures.found in
    let section = c.in-Some-read_block.ensures.only h.fields h.last has.rest (block-of at has) few in
    omega (arith, end-of at has c.read_block.new.headers c.in-Some-read_block.end c.in-Some-read_block.count section, has.is_head.short)

pub returns-in_default-body_length-clause-only : goal.returns-in_default-body_length-clause-only
returns-in_default-body_length-clause-only c = λ h size has.
    let few : length h.fields ≤ length c.args.headers.now = omega (arith, has.is_head.few) in
    let at = c.in-Some.ensures.found in
    let section = c.in-Some-read_block.ensures.only h.fields h.last has.rest (block-of at has) few in
    let both : None ≡ Some size = c.in_default-body_length.ensures.value
    ∙ body-of at has c.read_block.new.headers c.in-Some-read_block.end c.in-Some-read_block.count section in
    cc

pub returns-then-body-gt-BODY_LIMIT-clause-only : goal.returns-then-body-gt-BODY_LIMIT-clause-only
returns-then-body-gt-BODY_LIMIT-clause-only c = λ h size has.
    let few : length h.fields ≤ length c.args.headers.now = omega (arith, has.is_head.few) in
    let at = c.in-Some.ensures.found in
    let section = c.in-Some-read_block.ensures.only h.fields h.last has.rest (block-of at has) few in
    let both : Some c.in-Some-body_length.body ≡ Some size = c.in-Some-body_length.ensures.value
    ∙ body-of at has c.read_block.new.headers c.in-Some-read_block.end c.in-Some-read_block.count section in
    let same : c.in-Some-body_length.body ≡ size = cc (both) in
    omega (arith, same, has.is_head.body_short)

pub returns-clause-found : goal.returns-clause-found
returns-clause-found c =
    let block = c.in-Some-read_block.ensures.found in
    head-from c.in-Some.ensures.found c.read_block.new.headers c.in-Some-read_block.end c.in-Some-read_block.count c.in-Some-body_length.body
    block.0 block.1 block.2 (omega (arith, c.in-Some-read_block.ensures.within.count_fits)) (omega arith) c.in-Some-body_length.ensures.value (omega arith)

pub returns-clause-only : goal.returns-clause-only
returns-clause-only c = λ h size has.
    let few : length h.fields ≤ length c.args.headers.now = omega (arith, has.is_head.few) in
    let at = c.in-Some.ensures.found in
    let section = c.in-Some-read_block.ensures.only h.fields h.last has.rest (block-of at has) few in
    only-head at has c.read_block.new.headers c.in-Some-read_block.end c.in-Some-read_block.count c.in-Some-body_length.body section
    c.in-Some-body_length.ensures.value
