-- The texts of a list of drawers.
use Rattle.std.proofs.Common.{◌≡◌, ℕ, Bool, true, false, List, [], ◌∷◌, map, Some, cond, refl, sym, ap, ◌∙◌}
use Rattle.std.specs.List.{find}
use Rattle.std.specs.Str.{bytes_eq}
use Rattle.satip_base.specs.Streams.{Feed, fresh_feed}
use Rattle.satip_world.specs.Dials.{Dial}
use Rattle.satip_world.specs.Halls.{Hall}
use Rattle.satip_world.specs.Outboxes.{Outbox}
use Rattle.satip_world.specs.Recordings.{IsStarted}
use Rattle.satip_memory.specs.Shelves.{Shelf, recording_in, store_view}
use Rattle.satip_desk.specs.declared.kits.PumpKit.{PumpKit}
use Rattle.satip_desk.specs.Views.{PumpView, pump_view}
use Rattle.satip_desk.specs.declared.kits.JobKits.{JobKits}
use Rattle.satip_memory_desk.specs.declared.desk.Drawer.{Drawer}
use Rattle.satip_memory_desk.specs.Cabinets.{text_in, text_if}
use Rattle.satip_memory_desk.specs.Drawers.{row_of, shelf_kit, shelf_view, given_kits, given_view, memory_view}

-- one drawer more in front
text_before : (name : List ℕ) (first drawer : Drawer) (drawers : List Drawer) (b : Bool)
    → (find (λ d. bytes_eq d.name.items name) drawers ≡ Some drawer → text_in (map row_of drawers) name ≡ Some drawer.text.items)
    → cond b (Some first) (find (λ d. bytes_eq d.name.items name) drawers) ≡ Some drawer
    → text_if b first.text.items (text_in (map row_of drawers) name) ≡ Some drawer.text.items
text_before name first drawer drawers true found is =
    let same : first ≡ drawer = cc in
    ap (λ (d : Drawer). Some d.text.items) same
text_before name first drawer drawers false found is = found is

-- the drawer that is found first has the text
text_found : (name : List ℕ) (drawers : List Drawer) (drawer : Drawer) → find (λ d. bytes_eq d.name.items name) drawers ≡ Some drawer
    → text_in (map row_of drawers) name ≡ Some drawer.text.items
text_found name [] drawer is = cc
text_found name (first ∷ drawers) drawer is =
    text_before name first drawer drawers (bytes_eq first.name.items name) (text_found name drawers drawer) is

-- a source of the text of the drawer that is found first holds the text of the name
pub text_started : (name : List ℕ) (drawers : List Drawer) (drawer : Drawer) (feed : Feed) (text : List ℕ)
    → find (λ d. bytes_eq d.name.items name) drawers ≡ Some drawer → text ≡ drawer.text.items → feed ≡ fresh_feed text
    → IsStarted (Unit {0}) feed (text_in (map row_of drawers) name)
text_started name drawers drawer feed text found same fresh =
    rw (text_found name drawers drawer found) record {
      ended = ap (λ (f : Feed). f.ended) fresh;
      faults = ap (λ (f : Feed). f.faults) fresh;
      holds = (tt, ap (λ (f : Feed). f.left) fresh ∙ same);
    }

-- what is seen of the pumps that were given
pumps_seen : {P : Type 0} (kits : List (PumpKit Shelf Outbox P))
    → map (pump_view store_view (λ (o : Outbox). o)) kits
    ≡ map shelf_view (map shelf_kit kits)
pumps_seen [] = refl
pumps_seen (kit ∷ kits) = ap (λ (views : List PumpView). shelf_view (shelf_kit kit) ∷ views) (pumps_seen kits)

-- the kits that are kept show what those show that are given
pub kits_seen : {P : Type 0} (jobs : JobKits Hall Outbox P Shelf Dial) → given_view (given_kits jobs) ≡ memory_view jobs
kits_seen jobs = ap (λ (pumps : List PumpView). record {
  workers = (given_kits jobs).workers;
  pumps = pumps;
  ticker = (given_kits jobs).ticker;
}) (sym (pumps_seen jobs.pumps.items))
