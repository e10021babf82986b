-- The statuses of a recording.
use Rattle.std.proofs.Common.{◌≡◌, ℕ, ◌≤◌, inl, inr, Some, refl, arith}
use Rattle.satip_base.specs.Streams.{Feed, Drain, Rose}
use Rattle.satip_base.specs.Lists.{Has}
use Rattle.satip_desk.specs.Streams.{Streams, Tells}
use Rattle.satip_desk.specs.Views.{DeskView}
use Rattle.satip_recorder.specs.Ends.{Left, RecordEnds, record_statuses}
use Rattle.satip_recorder.specs.Words.{Wanted}
use Rattle.satip_program.specs.Commands.{Record}
use Rattle.satip_program.specs.Ended.{ended_recording}
use Rattle.satip_program.specs.Recording.{IsApart}
use Rattle.satip_program.specs.Runs.{RunEnds, StatusTells}
use Rattle.satip_program.proofs.RunLemmas.{alone}

apart_high : (status : ℕ) → 10 ≤ status → IsApart status
apart_high status high = record {
  usage = λ other. omega (arith, high, other);
  configuration = λ other. omega (arith, high, other);
  script = λ other. omega (arith, high, other);
  input = λ other. omega (arith, high, other);
  doors = λ other. omega (arith, high, other);
  long = λ other. omega (arith, high, other);
  full = λ other. omega (arith, high, other);
}

-- they are apart from those of the other commands
recording_apart : (status : ℕ) → Has status record_statuses → IsApart status
recording_apart status (inl is) = record {
  usage = λ other. omega (arith, is, other);
  configuration = λ other. omega (arith, is, other);
  script = λ other. omega (arith, is, other);
  input = λ other. omega (arith, is, other);
  doors = λ other. omega (arith, is, other);
  long = λ other. omega (arith, is, other);
  full = λ other. omega (arith, is, other);
}
recording_apart status (inr (inl is)) = record {
  usage = λ other. omega (arith, is, other);
  configuration = λ other. omega (arith, is, other);
  script = λ other. omega (arith, is, other);
  input = λ other. omega (arith, is, other);
  doors = λ other. omega (arith, is, other);
  long = λ other. omega (arith, is, other);
  full = λ other. omega (arith, is, other);
}
recording_apart status (inr (inr (inl is))) = apart_high status (omega (arith, is))
recording_apart status (inr (inr (inr (inl is)))) = apart_high status (omega (arith, is))
recording_apart status (inr (inr (inr (inr (inl is))))) = apart_high status (omega (arith, is))
recording_apart status (inr (inr (inr (inr (inr (inl is)))))) = apart_high status (omega (arith, is))
recording_apart status (inr (inr (inr (inr (inr (inr (inl is))))))) = apart_high status (omega (arith, is))
recording_apart status (inr (inr (inr (inr (inr (inr (inr (inl is)))))))) = apart_high status (omega (arith, is))
recording_apart status (inr (inr (inr (inr (inr (inr (inr (inr (none))))))))) = absurd none

-- what the status of a recording tells
pub record_tells : (t : Tells) (w : Wanted) (d f : DeskView) (i : Feed) (o n e m : Drain) (left : Left) (status : ℕ) → Has status record_statuses
    → (status ≡ 6 → Rose o.faults n.faults)
    → StatusTells t (alone (Some (Record w))) d f (record { input = i; output = o; errors = e }) (record { input = i; output = n; errors = m })
    (ended_recording left status)
record_tells t w d f i o n e m left status has rose =
    let apart = recording_apart status has in
    record {
      usage = ((λ is. absurd (apart.usage is)), λ none. let form = none.0 in let never : ⊥ = cc in absurd never);
      configuration = λ unserved is. absurd (apart.configuration is);
      script = λ is. absurd (apart.script is);
      input_fault = λ is. absurd (apart.input is);
      output_fault = λ unserved is. rose is;
      no_serving = λ unserved. (apart.doors, apart.full);
      too_long = ((λ is. absurd (apart.long is)), λ more. absurd (omega (arith, more)));
      limit = omega arith;
      errors = λ other. let never : ⊥ = cc in absurd never;
    }

-- a recording
pub record_ends : (t : Tells) (w : Wanted) (d f : DeskView) (s r : Streams) (left : Left) (status : ℕ) → RecordEnds t w d f s r left status
    → f.text ≡ d.text → f.given ≡ d.given → f.journaled ≡ d.journaled
    → StatusTells t (alone (Some (Record w))) d f s r (ended_recording left status)
    → RunEnds t (alone (Some (Record w))) d f s r (ended_recording left status)
record_ends t w d f s r left status ends texts kits journaled tells = record {
  command = ends;
  service = tt;
  asks = record {
    nothing = λ a b other. let never : ⊥ = cc in absurd never;
    texts = texts;
    kits = λ a. kits;
    client = λ other. let never : ⊥ = cc in absurd never;
    journals = λ a. journaled;
  };
  back = record {
    no_config = λ a b. refl;
    no_last = λ a. refl;
    last_alone = λ a. refl;
    no_tunnel = λ a. refl;
    no_unused = λ a. refl;
    no_client = λ other. let never : ⊥ = cc in absurd never;
    no_journals = λ a. refl;
  };
  tells = tells;
}
