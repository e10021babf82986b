use Rattle.std.proofs.Common.{◌≡◌, ◌+◌, ◌-◌, ◌≤◌, ◌++◌, ℕ, length, take, drop, ap, ◌∙◌, arith, rules}
use Rattle.satip_ts.proofs.Places.{held-put_mid}
use Rattle.satip_ts.proofs.cutter.Cutter.feed.Goals as goal

-- what was held, wherever it now starts, and the bytes written behind it
pub returns-clause-held : goal.returns-clause-held
returns-clause-held c =
    let s : ℕ = c.start_with_room-self-inside.result in
    let q : ℕ = s + (c.self.inside.end - c.self.inside.start) in
    let n : ℕ = c.min-count.result in
    let places = c.start_with_room-self-inside.new.places in
    let e1 : q - s ≡ c.self.inside.end - c.self.inside.start = omega arith in
    let inside : q ≤ length places = search rules in
    let written : length c.copy_from_slice.new.self ≡ n = search rules in
    let w = c.copy_from_slice.new.self in
    held-put_mid places w s q n (omega arith) inside written
    ∙ ap (λ m. take m (drop s places) ++ w) e1
    ∙ ap (λ t. t ++ w) (c.start_with_room-self-inside.ensures.kept ∙ c.self.view_is)
    ∙ ap (λ t. c.args.self.now ++ t) (c.copy_from_slice.ensures.after ∙ c.split_at.ensures.front)
