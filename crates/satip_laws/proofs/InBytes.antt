-- That the bytes that left for a session carry what the plain server sends it.
use Rattle.std.proofs.Common.{◌≡◌, ℕ, Bool, true, false, List, [], ◌∷◌, ◌++◌, map, length, refl, ap, sym, subst, ◌∙◌, if◌then◌else◌, append-nil}
use Rattle.std.specs.List.{flat_map}
use Rattle.std.proofs.lemmas.Grind.{flat_map-append}
use Rattle.satip_base.specs.Lists.{Each}
use Rattle.satip_base.proofs.Elements.{Each-append_left, Each-append_right}
use Rattle.satip_plain.specs.declared.setting.Setting.{Setting}
use Rattle.satip_plain.specs.Types.{SessionId, Config}
use Rattle.satip_plain.specs.State.{State, same_id}
use Rattle.satip_plain.specs.Sending.{Sent, Rtp, Report}
use Rattle.satip_plain.specs.Steps.{step}
use Rattle.satip_plain.specs.Histories.{Item, Legal, LegalFrom, datagram, opening}
use Rattle.satip_plain.specs.Packets.{packets_for, sent_from, payload}
use Rattle.satip_plain.specs.Readings.{readings}
use Rattle.satip_laws.proofs.Law.{agrees_after}
use Rattle.satip_laws.specs.Numbers.{is_rtp_of}
use Rattle.satip_laws.specs.Carried.{packets_inside}
use Rattle.satip_laws.specs.InBytes.{bytes_marked, bytes_from, payload_in_bytes}
use Rattle.satip_laws.proofs.Carrying.{packets_carried}

abbrev IsWhole : List ℕ → Type 0
IsWhole packet = length packet ≡ 188

-- the datagrams of one entry

one_carried : (s : SessionId) (d : Sent) → Each IsWhole (packets_for s d)
    → flat_map packets_inside (if is_rtp_of s d then (datagram d).bytes ∷ [] else []) ≡ packets_for s d
one_carried s (Rtp id to number clock ssrc packets) whole = by (same_id id s) whole
  where
    by : (b : Bool) → Each IsWhole (if b then packets else [])
        → flat_map packets_inside (if b then (datagram (Rtp id to number clock ssrc packets)).bytes ∷ [] else []) ≡ (if b then packets else [])
    by true whole = append-nil _ ∙ packets_carried number clock ssrc packets whole
    by false whole = refl
one_carried s (Report id view sender) whole = refl

entry_carried : (s : SessionId) (sent : List Sent) → Each IsWhole (flat_map (packets_for s) sent)
    → flat_map packets_inside (bytes_marked (is_rtp_of s) sent (map datagram sent)) ≡ flat_map (packets_for s) sent
entry_carried s [] whole = refl
entry_carried s (d ∷ sent) whole =
    let first = if is_rtp_of s d then (datagram d).bytes ∷ [] else [] in
    flat_map-append packets_inside first (bytes_marked (is_rtp_of s) sent (map datagram sent))
    ∙ ap (λ l. l ++ flat_map packets_inside (bytes_marked (is_rtp_of s) sent (map datagram sent)))
    (one_carried s d (Each-append_left IsWhole (packets_for s d) _ whole))
    ∙ ap (λ l. packets_for s d ++ l) (entry_carried s sent (Each-append_right IsWhole (packets_for s d) _ whole))

-- those of all entries

entries_carried : (c : Config) (h : List Item) (st : State) (s : SessionId) → LegalFrom c st h → Each IsWhole (flat_map (packets_for s) (sent_from c st h))
    → flat_map packets_inside (bytes_from (is_rtp_of s) c st h) ≡ flat_map (packets_for s) (sent_from c st h)
entries_carried c [] st s legal whole = refl
entries_carried c (e ∷ h) st s legal whole =
    let sent : List Sent = (step c st e.event).sent in
    let later : State = (step c st e.event).state in
    let split : flat_map (packets_for s) (sent ++ sent_from c later h) ≡ flat_map (packets_for s) sent ++ flat_map (packets_for s) (sent_from c later h) =
    flat_map-append (packets_for s) sent (sent_from c later h) in
    let both : Each IsWhole (flat_map (packets_for s) sent ++ flat_map (packets_for s) (sent_from c later h)) = subst (Each IsWhole) split whole in
    flat_map-append packets_inside (bytes_marked (is_rtp_of s) sent e.out.datagrams) (bytes_from (is_rtp_of s) c later h)
    ∙ ap (λ ds. flat_map packets_inside (bytes_marked (is_rtp_of s) sent ds) ++ flat_map packets_inside (bytes_from (is_rtp_of s) c later h)) legal.0.datagrams
    ∙ ap (λ l. l ++ flat_map packets_inside (bytes_from (is_rtp_of s) c later h))
    (entry_carried s sent (Each-append_left IsWhole _ (flat_map (packets_for s) (sent_from c later h)) both))
    ∙ ap (λ l. flat_map (packets_for s) sent ++ l) (entries_carried c h later s legal.1 (Each-append_right IsWhole (flat_map (packets_for s) sent) _ both))
    ∙ sym split

-- the bytes that left carry the payload, of which what is selected is the whole
pub payload_carried : (c : Setting) (h : List Item) (s : SessionId) (rest : List (List ℕ)) → Legal c h → payload c h s ++ rest ≡ (readings c h).selected s
    → payload_in_bytes c h s ≡ payload c h s
payload_carried c h s rest legal e =
    entries_carried c.config h (opening c) s legal.entries
    (Each-append_left IsWhole (payload c h s) rest (subst (Each IsWhole) (sym e) ((agrees_after c h legal).loosely.told.packets s)))
