-- The outcome of a service, by its status.
use Rattle.std.proofs.Common.{◌≡◌, ℕ, ◌⊎◌, ◌↔◌, inl, inr, true, false, List, [], ◌∷◌, Some, None, IsSomeAnd, MatchOption, ⊎_elim, refl, arith}
use Rattle.satip_base.specs.Streams.{Feed, Drain, Rose}
use Rattle.satip_base.specs.Lists.{Has}
use Rattle.satip_world.specs.Counts.{Rises}
use Rattle.satip_config.specs.Outcomes.{Logs}
use Rattle.satip_desk.specs.Journals.{journals_view}
use Rattle.satip_desk.specs.Streams.{Streams, Tells}
use Rattle.satip_desk.specs.Views.{DeskView}
use Rattle.satip_tunnel_serve.specs.Serve.Statuses.{serve_statuses}
use Rattle.satip_program.specs.Commands.{Asked, Serving, is_journal, is_tunnel}
use Rattle.satip_program.specs.Ended.{EndedView}
use Rattle.satip_program.specs.Journaling.{IsOfJournal}
use Rattle.satip_program.specs.Runs.{GivesBack, RunEnds, ServiceEnds, StatusTells}
use Rattle.satip_program.proofs.JournalLemmas.{input_of}

-- a service
abbrev pub serving : Serving → Asked
serving service = record { form = None; serving = Some service }

-- the streams of a service, of which only the errors change
abbrev pub unread : Feed → (o e : Drain) → Streams
unread i o e = record { input = i; output = o; errors = e }

-- the view of no journals
pub none_viewed : {K : Type 0} (job : K → ℕ) (drain : K → Drain) (sinks : List K) → sinks ≡ [] → journals_view job drain sinks ≡ []
none_viewed job drain [] is = refl
none_viewed job drain (sink ∷ sinks) is = let never : ⊥ = cc in absurd never

-- with journals or without
pub service_tells : (t : Tells) (service : Serving) (d f : DeskView) (i : Feed) (o e m : Drain) (v : EndedView)
    → IsOfJournal v.status → (is_journal (Some service) ≡ false → v.status ≡ 6 → ⊥)
    → (v.status ≡ 5 → Rose d.faults f.faults ⊎ IsSomeAnd v.source (λ s. Rose 0 s.faults)) → Logs t.errors e m v.status
    → StatusTells t (serving service) d f (unread i o e) (unread i o m) v
service_tells t service d f i o e m v apart whole input logs = record {
  usage = ((λ is. absurd (apart.usage is)), λ none. let other = none.1 in let never : ⊥ = cc in absurd never);
  configuration = λ unserved is. let never : ⊥ = cc in absurd never;
  script = λ is. absurd (apart.script is);
  input_fault = λ is.
      ⊎_elim (λ (rose : Rose d.faults f.faults). inl rose) (λ (rose : IsSomeAnd v.source (λ s. Rose 0 s.faults)). inr (inl rose)) (input is);
  output_fault = λ other is. absurd (whole other is);
  no_serving = λ unserved. let never : ⊥ = cc in absurd never;
  too_long = ((λ is. absurd (apart.long is)), λ more. absurd (omega (arith, more)));
  limit = omega arith;
  errors = λ unrecorded. inr logs;
}

-- a status that a serve never has
serve_apart : (status : ℕ) → Has status serve_statuses → IsOfJournal status × (status ≡ 6 → ⊥)
serve_apart status (inl is) =
    (record { usage = λ x. omega (arith, is, x); script = λ x. omega (arith, is, x); long = λ x. omega (arith, is, x) }, λ x. omega (arith, is, x))
serve_apart status (inr (inl is)) =
    (record { usage = λ x. omega (arith, is, x); script = λ x. omega (arith, is, x); long = λ x. omega (arith, is, x) }, λ x. omega (arith, is, x))
serve_apart status (inr (inr (inl is))) =
    (record { usage = λ x. omega (arith, is, x); script = λ x. omega (arith, is, x); long = λ x. omega (arith, is, x) }, λ x. omega (arith, is, x))
serve_apart status (inr (inr (inr (inl is)))) =
    (record { usage = λ x. omega (arith, is, x); script = λ x. omega (arith, is, x); long = λ x. omega (arith, is, x) }, λ x. omega (arith, is, x))
serve_apart status (inr (inr (inr (inr (inl is))))) =
    (record { usage = λ x. omega (arith, is, x); script = λ x. omega (arith, is, x); long = λ x. omega (arith, is, x) }, λ x. omega (arith, is, x))
serve_apart status (inr (inr (inr (inr (inr (inl is)))))) =
    (record { usage = λ x. omega (arith, is, x); script = λ x. omega (arith, is, x); long = λ x. omega (arith, is, x) }, λ x. omega (arith, is, x))
serve_apart status (inr (inr (inr (inr (inr (inr none)))))) = absurd none

-- of a serve and of a tunnel
pub serve_tells : (t : Tells) (service : Serving) (d f : DeskView) (i : Feed) (o e m : Drain) (v : EndedView)
    → Has v.status serve_statuses → ((v.status ≡ 5) ↔ MatchOption v.source (Rises d.faults f.faults) (λ s. Rose 0 s.faults))
    → Logs t.errors e m v.status → StatusTells t (serving service) d f (unread i o e) (unread i o m) v
serve_tells t service d f i o e m v has input logs =
    let apart = serve_apart v.status has in
    service_tells t service d f i o e m v apart.0 (λ other is. apart.1 is) (λ is. input_of v.source d.faults f.faults (input.0 is)) logs

-- what comes back of a service
pub service_back : (service : Serving) (v : EndedView) → (is_tunnel (Some service) ≡ true → v.last ≡ None)
    → (is_tunnel (Some service) ≡ false → v.tunnel ≡ None) → (v.left.wire ≡ None) × (v.left.inlet ≡ None) × (v.left.clock ≡ None)
    → (is_journal (Some service) ≡ false → v.journals ≡ []) → GivesBack (serving service) v
service_back service v last tunnel client journals = record {
  no_config = λ unserved. let never : ⊥ = cc in absurd never;
  no_last = λ unserved. let never : ⊥ = cc in absurd never;
  last_alone = last;
  no_tunnel = tunnel;
  no_unused = λ unserved. let never : ⊥ = cc in absurd never;
  no_client = λ a. client;
  no_journals = journals;
}

-- a service: its outcome, its requests, what comes back, and the meaning of its status
pub service_ends : (t : Tells) (service : Serving) (d f : DeskView) (i : Feed) (o e m : Drain) (v : EndedView)
    → ServiceEnds t d f (unread i o e) (unread i o m) v (Some service)
    → f.text ≡ d.text → f.handed ≡ d.handed → (is_journal (Some service) ≡ false → f.journaled ≡ d.journaled)
    → GivesBack (serving service) v → StatusTells t (serving service) d f (unread i o e) (unread i o m) v
    → RunEnds t (serving service) d f (unread i o e) (unread i o m) v
service_ends t service d f i o e m v ends texts handed journaled back tells = record {
  command = record { input = refl; output = refl };
  service = ends;
  asks = record {
    nothing = λ unserved. let never : ⊥ = cc in absurd never;
    texts = texts;
    kits = λ unserved. let never : ⊥ = cc in absurd never;
    client = λ a. handed;
    journals = journaled;
  };
  back = back;
  tells = tells;
}
