-- What follows from what each job of a run did.
use Rattle.std.proofs.Common.{◌≡◌, List, [], ◌∷◌, map, refl, ap, ◌∙◌}
use Rattle.satip_plain.specs.declared.setting.Setting.{Setting}
use Rattle.satip_turn.specs.Shown.{Cell}
use Rattle.satip_jobs.specs.Pairs.{Both}
use Rattle.satip_jobs.specs.declared.end.ServeEnd.{ServeEnd}
use Rattle.satip_jobs.specs.declared.posts.Posts.{Posts}
use Rattle.satip_jobs.specs.declared.seat.Seat.{Seat}
use Rattle.satip_jobs.specs.Crewed.{FrontDid, RunDid}
use Rattle.satip_jobs.specs.Passes.{ItemOf, PassOf}
use Rattle.satip_jobs.proofs.Beside.{both_as}

-- a part of a kit that a job leaves as it is
kept_by_all : {X K M S : Type 0} (did : Seat X K M → Seat X K M → Type 0) (part : K → S) → ((x y : Seat X K M) → did x y → part y.kit ≡ part x.kit)
    → (xs ys : List (Seat X K M)) → Both did xs ys → map part (map (λ s. s.kit) ys) ≡ map part (map (λ s. s.kit) xs)
kept_by_all did part keeps [] [] both = refl
kept_by_all did part keeps [] (y ∷ ys) both = absurd both
kept_by_all did part keeps (x ∷ xs) [] both = absurd both
kept_by_all {X} {K} {M} {S} did part keeps (x ∷ xs) (y ∷ ys) both =
    ap (λ (s : S). s ∷ map part (map (λ (t : Seat X K M). t.kit) ys)) (keeps x y both.0)
    ∙ ap (λ (ss : List S). part x.kit ∷ ss) (kept_by_all did part keeps xs ys both.1)

module _ {X E A G : Type 0} (cell : X → Cell Setting) (pass : X → PassOf E A) (gear : X → G) (legal : Setting → List (ItemOf E A) → Type 0)
    (is_stop : ItemOf E A → Type 0) (goes_on : X → X → Type 0) {W L P M T N : Type 0} (worked : Seat X W L → Seat X W L → Type 0)
    (pumped : Seat X P M → Seat X P M → Type 0) (ticked : Seat X T N → Seat X T N → Type 0) (o : X) (before : Posts W P T G) (n : X) (after : Posts W P T G)
    (end : ServeEnd) (run : RunDid cell pass gear legal is_stop goes_on worked pumped ticked o before n after end) where
  -- of the workers of a run, and of its pumps
  pub workers_keep : {S : Type 0} (part : W → S) → ((x y : Seat X W L) → worked x y → part y.kit ≡ part x.kit)
      → map part after.workers.items ≡ map part before.workers.items
  workers_keep part keeps =
      ap (λ (ws : List W). map part ws) run.front.kits_are
      ∙ kept_by_all worked part keeps run.first run.front.ended run.front.done
      ∙ ap (λ (ws : List W). map part ws) run.first_begun.kits_are

  pub pumps_keep : {S : Type 0} (part : P → S) → ((x y : Seat X P M) → pumped x y → part y.kit ≡ part x.kit)
      → map part after.pumps.items ≡ map part before.pumps.items
  pumps_keep part keeps =
      ap (λ (ps : List P). map part ps) run.pumps_are
      ∙ kept_by_all pumped part keeps run.second run.second_ended run.second_done
      ∙ ap (λ (ps : List P). map part ps) run.second_begun.kits_are

  -- the run did what follows from what each job did
  pub run_as : (worked' : Seat X W L → Seat X W L → Type 0) (pumped' : Seat X P M → Seat X P M → Type 0) (ticked' : Seat X T N → Seat X T N → Type 0)
      → ((x y : Seat X W L) → worked x y → worked' x y) → ((x y : Seat X P M) → pumped x y → pumped' x y) → ((x y : Seat X T N) → ticked x y → ticked' x y)
      → RunDid cell pass gear legal is_stop goes_on worked' pumped' ticked' o before n after end
  run_as worked' pumped' ticked' works pumps ticks =
      let front = run.front in
      let front' : FrontDid cell pass gear legal is_stop goes_on worked' run.begun run.first run.stopped after.workers.items after.worker_gears.items
      run.worst_front = record {
        ended = front.ended;
        done = both_as worked worked' works run.first front.ended front.done;
        joined = front.joined;
        joined_cell = front.joined_cell;
        joined_gear = front.joined_gear;
        joins = front.joins;
        knew = front.knew;
        kits_are = front.kits_are;
        gears_are = front.gears_are;
        stop = front.stop;
        cell_is = front.cell_is;
        keeps = front.keeps;
        stops = front.stops;
        went_on = front.went_on;
        knows = front.knows;
        end_is = front.end_is;
      } in
      record {
        first = run.first;
        second = run.second;
        third = run.third;
        first_begun = run.first_begun;
        second_begun = run.second_begun;
        third_begun = run.third_begun;
        begun = run.begun;
        begun_cell = run.begun_cell;
        begun_gear = run.begun_gear;
        number = run.number;
        own = run.own;
        kept = run.kept;
        made = run.made;
        stopped = run.stopped;
        worst_front = run.worst_front;
        front = front';
        second_ended = run.second_ended;
        second_done = both_as pumped pumped' pumps run.second run.second_ended run.second_done;
        third_ended = run.third_ended;
        third_done = ticks run.third run.third_ended run.third_done;
        joined = run.joined;
        second_joins = run.second_joins;
        third_joins = run.third_joins;
        cell_is = run.cell_is;
        gear_is = run.gear_is;
        pumps_are = run.pumps_are;
        pump_gears_are = run.pump_gears_are;
        ticker_is = run.ticker_is;
        ticker_gear_is = run.ticker_gear_is;
        end_is = run.end_is;
      }
