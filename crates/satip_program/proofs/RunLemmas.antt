-- The outcome of a command that waits for no client, by its status.
use Rattle.std.proofs.Common.{◌≡◌, ℕ, ◌+◌, ◌-◌, ◌<◌, ◌≤◌, ◌⊎◌, ◌↔◌, inl, inr, List, [], ◌∷◌, Option, Some, None, IsSome, IsSomeAnd, option_map, refl, arith}
use Rattle.satip_base.specs.Streams.{Feed, Drain, Rose}
use Rattle.satip_base.specs.Lists.{Has}
use Rattle.satip_talk_command.specs.Runs.{input_limit}
use Rattle.satip_config.specs.Lines.{Says}
use Rattle.satip_config.specs.Outcomes.{Logs, line_of, status_of}
use Rattle.satip_config.specs.declared.outcome.Outcome.{Outcome}
use Rattle.satip_desk.specs.Streams.{Streams, Tells}
use Rattle.satip_desk.specs.Views.{DeskView}
use Rattle.satip_program.specs.Commands.{Form, Asked, config_named, usage}
use Rattle.satip_program.specs.Ended.{EndedView, ended_alone}
use Rattle.satip_program.specs.Runs.{AsksOnly, CommandEnds, GivesBack, IsShown, RunEnds, StatusTells}

-- a command without service
abbrev pub alone : Option Form → Asked
alone form = record { form = form; serving = None }

-- a fact about the view of a source, if there is one
pub seen : {C : Type 0} (view : C → Feed) (source : Option C) (P : Feed → Type 0) → IsSomeAnd source (λ s. P (view s)) → IsSomeAnd (option_map view source) P
seen view None P holds = holds
seen view (Some s) P holds = holds

-- the cause of an input fault
pub seen_fault : {C : Type 0} (view : C → Feed) (source : Option C) (A B : Type 0)
    → A ⊎ IsSomeAnd source (λ s. Rose 0 (view s).faults) ⊎ B → A ⊎ IsSomeAnd (option_map view source) (λ s. Rose 0 s.faults) ⊎ B
seen_fault view source A B (inl a) = inl a
seen_fault view source A B (inr (inl rose)) = inr (inl (seen view source (λ (s : Feed). Rose 0 s.faults) rose))
seen_fault view source A B (inr (inr b)) = inr (inr b)

-- the view of nothing
pub none_seen : {A B : Type 0} (view : A → B) (x : Option A) → x ≡ None → option_map view x ≡ None
none_seen view None is = refl
none_seen view (Some a) is = let never : ⊥ = cc in absurd never

-- the statuses of commands that take an input
abbrev pub input_statuses : List ℕ
input_statuses = 0 ∷ 3 ∷ 4 ∷ 5 ∷ 6 ∷ 8 ∷ 70 ∷ []

-- they are apart from those of no command and of a service
apart : (status : ℕ) → Has status input_statuses → (status ≡ 2 → ⊥) × (status ≡ 7 → ⊥) × (status ≡ 9 → ⊥)
apart status (inl is) = ((λ x. omega (arith, is, x)), (λ x. omega (arith, is, x)), λ x. omega (arith, is, x))
apart status (inr (inl is)) = ((λ x. omega (arith, is, x)), (λ x. omega (arith, is, x)), λ x. omega (arith, is, x))
apart status (inr (inr (inl is))) = ((λ x. omega (arith, is, x)), (λ x. omega (arith, is, x)), λ x. omega (arith, is, x))
apart status (inr (inr (inr (inl is)))) = ((λ x. omega (arith, is, x)), (λ x. omega (arith, is, x)), λ x. omega (arith, is, x))
apart status (inr (inr (inr (inr (inl is))))) = ((λ x. omega (arith, is, x)), (λ x. omega (arith, is, x)), λ x. omega (arith, is, x))
apart status (inr (inr (inr (inr (inr (inl is)))))) = ((λ x. omega (arith, is, x)), (λ x. omega (arith, is, x)), λ x. omega (arith, is, x))
apart status (inr (inr (inr (inr (inr (inr (inl is))))))) = ((λ x. omega (arith, is, x)), (λ x. omega (arith, is, x)), λ x. omega (arith, is, x))
apart status (inr (inr (inr (inr (inr (inr (inr none))))))) = absurd none

-- a command that takes an input: the causes of each of its statuses, and its line
pub input_tells : (t : Tells) (form : Form) (d f : DeskView) (s r : Streams) (e : EndedView) → Has e.status input_statuses
    → (e.status ≡ 3 → IsSome (config_named (Some form))) → (e.status ≡ 4 → IsSome (config_named (Some form)))
    → (e.status ≡ 5 → Rose d.faults f.faults ⊎ IsSomeAnd e.source (λ source. Rose 0 source.faults) ⊎ Rose s.input.faults r.input.faults)
    → (e.status ≡ 6 → Rose s.output.faults r.output.faults)
    → ((e.status ≡ 8) ↔ (input_limit < r.input.taken - s.input.taken)) → r.input.taken ≤ s.input.taken + input_limit + 1
    → Logs t.errors s.errors r.errors e.status → StatusTells t (alone (Some form)) d f s r e
input_tells t form d f s r e has configuration script input output long limit logs =
    let other = apart e.status has in
    record {
      usage = ((λ is. absurd (other.0 is)), λ none. let formless = none.0 in let never : ⊥ = cc in absurd never);
      configuration = λ unserved is. configuration is;
      script = script;
      input_fault = input;
      output_fault = λ unserved is. output is;
      no_serving = λ unserved. (other.1, other.2);
      too_long = long;
      limit = limit;
      errors = λ unrecorded. inr logs;
    }

-- the statuses of commands that take no input
abbrev pub output_statuses : List ℕ
output_statuses = 0 ∷ 6 ∷ 70 ∷ []

has_input : (status : ℕ) → Has status output_statuses → Has status input_statuses
has_input status (inl is) = inl is
has_input status (inr (inl is)) = inr (inr (inr (inr (inl is))))
has_input status (inr (inr (inl is))) = inr (inr (inr (inr (inr (inr (inl is))))))
has_input status (inr (inr (inr none))) = absurd none

-- they tell no place in a text, and no fault of an input
of_output : (status : ℕ) → Has status output_statuses → (status ≡ 3 → ⊥) × (status ≡ 4 → ⊥) × (status ≡ 5 → ⊥) × (status ≡ 8 → ⊥)
of_output status (inl is) = ((λ x. omega (arith, is, x)), (λ x. omega (arith, is, x)), (λ x. omega (arith, is, x)), λ x. omega (arith, is, x))
of_output status (inr (inl is)) = ((λ x. omega (arith, is, x)), (λ x. omega (arith, is, x)), (λ x. omega (arith, is, x)), λ x. omega (arith, is, x))
of_output status (inr (inr (inl is))) = ((λ x. omega (arith, is, x)), (λ x. omega (arith, is, x)), (λ x. omega (arith, is, x)), λ x. omega (arith, is, x))
of_output status (inr (inr (inr none))) = absurd none

-- a command that takes no input
pub output_tells : (t : Tells) (form : Form) (d f : DeskView) (i : Feed) (o n e m : Drain) (source : Option Feed) (status : ℕ)
    → Has status output_statuses → (status ≡ 6 → Rose o.faults n.faults) → Logs t.errors e m status
    → StatusTells t (alone (Some form)) d f (record { input = i; output = o; errors = e }) (record { input = i; output = n; errors = m })
    (ended_alone source status)
output_tells t form d f i o n e m source status has output logs =
    let other = of_output status has in
    input_tells t form d f (record { input = i; output = o; errors = e }) (record { input = i; output = n; errors = m }) (ended_alone source status)
    (has_input status has)
    (λ is. absurd (other.0 is)) (λ is. absurd (other.1 is)) (λ is. absurd (other.2 is)) output
    ((λ is. absurd (other.3 is)), λ more. absurd (omega (arith, more))) (omega arith) logs

-- a text that is written has one of these statuses
pub shows_has : (ot : Type 0) (o n : Drain) (text : List ℕ) (status : ℕ) → IsShown ot o n text status → Has status output_statuses
shows_has ot o n text status (inl put) = inl put.0
shows_has ot o n text status (inr failed) = inr (inl failed.0)

shows_rose : (ot : Type 0) (o n : Drain) (text : List ℕ) (status : ℕ) → IsShown ot o n text status → status ≡ 6 → Rose o.faults n.faults
shows_rose ot o n text status (inl put) is = absurd (omega (arith, put.0, is))
shows_rose ot o n text status (inr failed) is = failed.1.faults

-- a desk that was asked nothing
pub asks_nothing : (asked : Asked) (d : DeskView) → AsksOnly asked d d
asks_nothing asked d = record {
  nothing = λ a b c. refl;
  texts = refl;
  kits = λ a. refl;
  client = λ a. refl;
  journals = λ a. refl;
}

-- what comes back of a command without jobs and without a client
pub back_alone : (form : Option Form) (source : Option Feed) (status : ℕ) → (config_named form ≡ None → source ≡ None)
    → GivesBack (alone form) (ended_alone source status)
back_alone form source status config = record {
  no_config = λ a b. config b;
  no_last = λ a. refl;
  last_alone = λ a. refl;
  no_tunnel = λ a. refl;
  no_unused = λ a. refl;
  no_client = λ a. (refl, refl, refl);
  no_journals = λ a. refl;
}

-- a command that asks the desk nothing
pub ends_alone : (t : Tells) (form : Option Form) (d : DeskView) (s r : Streams) (status : ℕ) → CommandEnds t d d s r (ended_alone None status) form
    → StatusTells t (alone form) d d s r (ended_alone None status) → RunEnds t (alone form) d d s r (ended_alone None status)
ends_alone t form d s r status command tells = record {
  command = command;
  service = tt;
  asks = asks_nothing (alone form) d;
  back = back_alone form None status (λ a. refl);
  tells = tells;
}

-- a text of the program's own
pub shows_tells : (t : Tells) (form : Form) (d : DeskView) (i : Feed) (o n e m : Drain) (text : List ℕ) (end : Outcome)
    → IsShown t.output o n text (status_of end) → Says t.errors e m (line_of end)
    → StatusTells t (alone (Some form)) d d (record { input = i; output = o; errors = e }) (record { input = i; output = n; errors = m })
    (ended_alone None (status_of end))
shows_tells t form d i o n e m text end shows line =
    output_tells t form d d i o n e m None (status_of end) (shows_has t.output o n text (status_of end) shows) (shows_rose t.output o n text (status_of end) shows)
    (record { outcome = end; status_is = refl; says = line })

-- the words are an unknown command line
pub usage_tells : (t : Tells) (d : DeskView) (i : Feed) (o e m : Drain) → Says t.errors e m usage
    → StatusTells t (alone None) d d (record { input = i; output = o; errors = e }) (record { input = i; output = o; errors = m }) (ended_alone None 2)
usage_tells t d i o e m line = record {
  usage = ((λ is. (refl, refl)), λ none. refl);
  configuration = λ unserved is. absurd (omega (arith, is));
  script = λ is. absurd (omega (arith, is));
  input_fault = λ is. absurd (omega (arith, is));
  output_fault = λ unserved is. absurd (omega (arith, is));
  no_serving = λ unserved. ((λ is. omega (arith, is)), λ is. omega (arith, is));
  too_long = ((λ is. absurd (omega (arith, is))), λ more. absurd (omega (arith, more)));
  limit = omega arith;
  errors = λ unrecorded. inl (refl, line);
}
