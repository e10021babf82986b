use Rattle.std.proofs.Common.{Some, None, ℕ, ◌≡◌, ◌+◌, ◌-◌, ◌<◌, ◌≤◌, List, ◌++◌, get_or, length, take, drop, sym, ap, subst, ◌∙◌, arith, rules}
use Rattle.std.proofs.lemmas.List.{take-append-drop, length-take, length-take-le}
use Rattle.satip_ts.specs.Recording.{from_sync}
use Rattle.satip_ts.proofs.Sync.{from_sync-first}
use Rattle.satip_ts.proofs.Runs.{cut_packets-answer, cut_packets-none}
use Rattle.satip_ts.proofs.Places.{held-drop}
use Rattle.satip_ts.proofs.cutter.Cutter.next.Goals as goal

-- what is held once the bytes before the next sync byte are dropped
synced : (places old : List ℕ) (s e k : ℕ) → take (e - s) (drop s places) ≡ old → s + k ≤ e
    → drop k (take (e - s) (drop s places)) ≡ from_sync (take (e - s) (drop s places))
    → take (e - (s + k)) (drop (s + k) places) ≡ from_sync old
synced places old s e k view within drops = held-drop places s e k within ∙ drops ∙ ap (λ t. from_sync t) view

pub packet_at_front-requires : goal.packet_at_front-requires
packet_at_front-requires c =
    let front = synced c.self.inside.places c.args.self.now c.self.inside.start c.self.inside.end c.bytes_before_sync-skipped.result c.self.view_is
    (search rules) c.bytes_before_sync-skipped.ensures.sync in
    record { synchronized = λ h. subst (λ t. get_or t 0 0 ≡ 71) (sym front) (from_sync-first c.args.self.now (subst (λ t. 0 < length t) front h)) }

pub returns-in_default-clause-held : goal.returns-in_default-clause-held
returns-in_default-clause-held c =
    let front = synced c.self.inside.places c.args.self.now c.self.inside.start c.self.inside.end c.bytes_before_sync-skipped.result c.self.view_is
    (search rules) c.bytes_before_sync-skipped.ensures.sync in
    (front, c.in_default.ensures.packet)

pub returns-clause-held : goal.returns-clause-held
returns-clause-held c =
    let s : ℕ = c.self.inside.start + c.bytes_before_sync-skipped.result in
    let e = c.self.inside.end in
    let places = c.self.inside.places in
    let held = take (e - s) (drop s places) in
    let found = c.in-Some.ensures.packet in
    let front = synced places c.args.self.now c.self.inside.start e c.bytes_before_sync-skipped.result c.self.view_is (search rules)
    c.bytes_before_sync-skipped.ensures.sync in
    let inside : s + 188 ≤ e = omega (arith, found.1, length-take (e - s) (drop s places)) in (
      ap (λ p. p ++ take (e - (s + 188)) (drop (s + 188) places)) found.0
          ∙ ap (λ rest. take 188 held ++ rest) (held-drop places s e 188 inside)
          ∙ take-append-drop 188 held
          ∙ front,
      ap length found.0 ∙ length-take-le 188 held found.1,
    )

pub returns-in_default-clause-first : goal.returns-in_default-clause-first
returns-in_default-clause-first c = λ more. cut_packets-answer c.args.self.now None _ more (returns-in_default-clause-held c)

pub returns-in_default-clause-complete : goal.returns-in_default-clause-complete
returns-in_default-clause-complete c = λ _. cut_packets-none c.args.self.now _ (returns-in_default-clause-held c)

pub returns-clause-first : goal.returns-clause-first
returns-clause-first c = λ more. cut_packets-answer c.args.self.now (Some c.in-Some.packet) _ more (returns-clause-held c)
