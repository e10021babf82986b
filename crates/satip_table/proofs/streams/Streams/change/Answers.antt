use Rattle.std.proofs.Common.{◌≡◌, ◌∙◌, ◌+◌, ℕ, false, ap}
use Rattle.satip_table.specs.Placed.{is_there}
use Rattle.satip_table.specs.Streams.{is_live}
use Rattle.satip_table.specs.Streams.{with_stream}
use Rattle.satip_table.proofs.StreamPlaces.{find_none, live_some, retuned_at, retuned_none}
use Rattle.satip_table.proofs.streams.Streams.change.Goals as goal

pub returns-in_default-clause-lives : goal.returns-in_default-clause-lives
returns-in_default-clause-lives c =
    let none : (place : ℕ) → place + 1 ≡ c.args.number → is_there place c.self.inside.order ≡ false = c.in_default.ensures.none in
    let lost = find_none c.self.inside c.self.invariant c.args.number none in
    lost.1 ∙ ap (λ ss. is_live ss c.args.number) c.self.view_is

pub returns-in_default-clause-changed : goal.returns-in_default-clause-changed
returns-in_default-clause-changed c =
    let none : (place : ℕ) → place + 1 ≡ c.args.number → is_there place c.self.inside.order ≡ false = c.in_default.ensures.none in
    let lost = find_none c.self.inside c.self.invariant c.args.number none in
    retuned_none c.args.tuning c.args.front c.args.pids c.args.number c.args.self.now (lost.1 ∙ ap (λ ss. is_live ss c.args.number) c.self.view_is)

pub returns-clause-lives : goal.returns-clause-lives
returns-clause-lives c =
    let at = c.in-Some.ensures.some in
    live_some c.self.inside c.self.invariant c.args.number c.in-Some.place at.0 at.1 ∙ ap (λ ss. is_live ss c.args.number) c.self.view_is

pub returns-clause-changed : goal.returns-clause-changed
returns-clause-changed c =
    let at = c.in-Some.ensures.some in
    retuned_at c.self.inside c.self.invariant c.args.tuning c.args.front c.args.pids c.args.number c.in-Some.place at.0 at.1 c.index_mut.result.now
    c.retune.new.stream c.index_mut.ensures.value c.retune.ensures.tuned
    ∙ ap (with_stream c.args.number c.args.tuning c.args.front c.args.pids) c.self.view_is
