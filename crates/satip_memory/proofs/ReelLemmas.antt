-- The recordings of a list of reels.
use Rattle.std.proofs.Common.{◌≡◌, ◌==◌, ℕ, Bool, true, false, List, [], ◌∷◌, map, Some, refl, cond, ap, ◌∙◌}
use Rattle.std.specs.List.{find}
use Rattle.satip_memory.specs.declared.store.Reel.{Reel}
use Rattle.satip_base.specs.Streams.{Feed, fresh_feed}
use Rattle.satip_world.specs.Recordings.{IsStarted}
use Rattle.satip_memory.specs.Shelves.{recording_in, recording_if}
use Rattle.satip_memory.specs.Reels.{row_of}

-- one reel more in front
pub recording_before : (mux : ℕ) (first reel : Reel) (reels : List Reel) (b : Bool)
    → (find (λ r. r.mux == mux) reels ≡ Some reel → recording_in (map row_of reels) mux ≡ Some reel.text.items)
    → cond b (Some first) (find (λ r. r.mux == mux) reels) ≡ Some reel
    → recording_if b first.text.items (recording_in (map row_of reels) mux) ≡ Some reel.text.items
recording_before mux first reel reels true found is =
    let same : first ≡ reel = cc in
    ap (λ (r : Reel). Some r.text.items) same
recording_before mux first reel reels false found is = found is

-- the reel that is found first has the recording
pub recording_found : (mux : ℕ) (reels : List Reel) (reel : Reel) → find (λ r. r.mux == mux) reels ≡ Some reel
    → recording_in (map row_of reels) mux ≡ Some reel.text.items
recording_found mux [] reel is = cc
recording_found mux (first ∷ reels) reel is = recording_before mux first reel reels (first.mux == mux) (recording_found mux reels reel) is

-- a source of the text of the reel that is found first holds the recording
pub recording_started : (mux : ℕ) (reels : List Reel) (reel : Reel) (feed : Feed) (text : List ℕ)
    → find (λ r. r.mux == mux) reels ≡ Some reel → text ≡ reel.text.items → feed ≡ fresh_feed text
    → IsStarted (Unit {0}) (record { left = feed.left; ended = feed.ended; faults = 0; taken = feed.taken }) (recording_in (map row_of reels) mux)
recording_started mux reels reel feed text found same fresh =
    rw (recording_found mux reels reel found) record {
      ended = ap (λ (f : Feed). f.ended) fresh;
      faults = refl;
      holds = (tt, ap (λ (f : Feed). f.left) fresh ∙ same);
    }
