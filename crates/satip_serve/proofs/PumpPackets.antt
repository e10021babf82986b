-- In a serve run the packets of a front end are its pump's, so that they are of recordings.
use Rattle.std.proofs.Common.{◌≡◌, ℕ, ◌+◌, ◌<◌, ◌⊎◌, ◌==◌, inl, inr, Bool, true, false, List, [], ◌∷◌, ◌++◌, length, Option, None, arith, refl, sym, ap, ◌∙◌}
use Rattle.std.proofs.Common.{subst, ⊎_elim, append_assoc, length-append}
use Rattle.std.proofs.lemmas.Bool.{eqb-true, false≢true}
use Rattle.satip_base.specs.Lists.{Each, Has}
use Rattle.satip_base.specs.History.{kept_if, own_of}
use Rattle.satip_base.proofs.Elements.{Each-append, Each-append_left, Each-append_right, each_follows, each_at, each_has}
use Rattle.satip_base.proofs.Owned.{own_of-cons_same}
use Rattle.satip_laws.specs.Recorded.{is_packet_on, PacketsAreOf}
use Rattle.satip_plain.specs.declared.events.Event.{Event}
use Rattle.satip_plain.specs.declared.events.Event.TheVariants.{Packet, Ended, Stop}
use Rattle.satip_plain.specs.declared.setting.Setting.{Setting}
use Rattle.satip_plain.specs.Histories.{Item}
use Rattle.satip_plain.specs.Pumping.{Due, Asking, Feeding, Finished, IsFirst, IsDue, Pumps, after_entry}
use Rattle.satip_turn.specs.Views.{numbers_of}
use Rattle.satip_worker.specs.Drawing.{draw_at}
use Rattle.satip_shared.specs.Calling.{ServerPass}
use Rattle.satip_desk.specs.Views.{WorkerView, PumpView, JobsView}
use Rattle.satip_serve.specs.Done.{Caller, WorkerDone, PumpDone}
use Rattle.satip_serve.specs.ServeRuns.{Along, StopsOnce, HasNoStop, ServeRun}
use Rattle.satip_serve.specs.Laws.{GivesRecordings, EachAt, PlaysAt, PlaysRecordings}
use Rattle.satip_serve.proofs.Quiet.{IsQuiet, quiet_event, serves_quiet, ticks_quiet}

-- a packet that is due is of the pump's front end
due_packet : (front : ℕ) (due : Due) (event : Event) → IsDue front due event → (n : ℕ) → is_packet_on n event ≡ true → front ≡ n
due_packet front (Asking reel) event is n on = absurd (false≢true (sym (ap (is_packet_on n) is) ∙ on))
due_packet front (Feeding reel) event is n on =
    ⊎_elim (λ (fed : (packet : List ℕ) × (event ≡ Packet front reel.tune packet) × IsFirst packet reel.left).
    eqb-true front n (sym (ap (is_packet_on n) fed.1) ∙ on))
    (λ (ended : event ≡ Ended front reel.tune). absurd (false≢true (sym (ap (is_packet_on n) ended) ∙ on))) is
due_packet front Finished event is n on = absurd is

pump_packets : (front : ℕ) (recording : ℕ → Option (List ℕ)) (due : Due) (entries : List Item) (next : Due) (early : ℕ)
    → Pumps front recording due entries next early
    → Each (λ e. (n : ℕ) → is_packet_on n e.event ≡ true → front ≡ n) entries
pump_packets front recording due [] next early pumps = tt
pump_packets front recording due (e ∷ es) next early pumps =
    (due_packet front due e.event pumps.0, pump_packets front recording (after_entry recording due e) es next pumps.1.0 pumps.1.1)

-- a caller with packets of this front end has this number
pub record GivesAs (front number : ℕ) (r : Caller) : Type 0 where
  pub gives : Each (λ e. is_packet_on front e.event ≡ true → r.number ≡ number) r.own

pub quiet_gives : (front number : ℕ) (r : Caller) → Each IsQuiet r.own → GivesAs front number r
quiet_gives front number r quiet = record {
  gives = each_follows IsQuiet (λ e. is_packet_on front e.event ≡ true → r.number ≡ number)
      (λ e is on. absurd (false≢true (sym (is.quiet front) ∙ on))) r.own quiet;
}

workers_give : (conn_tells outlet_tells full : Type 0) (accepts front number from : ℕ) (workers : List WorkerView) (rows : List Caller)
    → Along (WorkerDone conn_tells outlet_tells full accepts) from workers rows → Each (GivesAs front number) rows
workers_give ct ot full accepts front number from [] [] along = tt
workers_give ct ot full accepts front number from [] (r ∷ rs) along = absurd along
workers_give ct ot full accepts front number from (w ∷ ws) [] along = absurd along
workers_give ct ot full accepts front number from (w ∷ ws) (r ∷ rs) along =
    let done = along.0 in (
      quiet_gives front number r (serves_quiet ct (draw_at w.key from) 0 done.draws done.connections r.own done.served),
      workers_give ct ot full accepts front number (from + 1) ws rs along.1,
    )

-- the caller at a place, of those from this one on, has this number
pub HasAt : (place number from : ℕ) → List Caller → Type 0
HasAt place number from [] = Unit {0}
HasAt place number from (r ∷ rs) = (from ≡ place → r.number ≡ number) × HasAt place number (from + 1) rs

behind_place : (place number from : ℕ) (rows : List Caller) → place < from → HasAt place number from rows
unfolding HasAt
behind_place place number from [] less = tt
behind_place place number from (r ∷ rs) less = ((λ is. absurd (omega (arith, is, less))), behind_place place number (from + 1) rs (omega (arith, less)))

at_place : (before : List Caller) (r : Caller) (behind : List Caller) (from place : ℕ) → place ≡ from + length before
    → HasAt place r.number from (before ++ r ∷ behind)
unfolding HasAt
at_place [] r behind from place at = ((λ _. refl), behind_place place r.number (from + 1) behind (omega (arith, at)))
at_place (b ∷ bs) r behind from place at = ((λ is. absurd (omega (arith, is, at))), at_place bs r behind (from + 1) place (omega (arith, at)))

pub pumps_give : (outlet_tells full : Type 0) (front number from : ℕ) (pumps : List PumpView) (rows : List Caller)
    → Along (PumpDone outlet_tells full) from pumps rows
    → HasAt front number from rows → Each (GivesAs front number) rows
unfolding HasAt
pumps_give ot full front number from [] [] along at = tt
pumps_give ot full front number from [] (r ∷ rs) along at = absurd along
pumps_give ot full front number from (p ∷ ps) [] along at = absurd along
pumps_give ot full front number from (p ∷ ps) (r ∷ rs) along at =
    let done = along.0 in (
      record {
        gives = each_follows (λ e. (n : ℕ) → is_packet_on n e.event ≡ true → from ≡ n) (λ e. is_packet_on front e.event ≡ true → r.number ≡ number)
            (λ e only on. at.0 (only front on)) r.own (pump_packets from p.recording (Asking None) r.own done.due done.early done.pumps);
      },
      pumps_give ot full front number (from + 1) ps rs along.1 at.1,
    )

-- an entry is one of its caller's
has_kept : (b : Bool) (x e : Item) (xs : List Item) → Has e xs → Has e (kept_if b x xs)
has_kept true x e xs has = inr has
has_kept false x e xs has = has

has_own : (e : Item) (h : List Item) → Has e h → Has e (own_of e.caller h)
has_own e [] has = absurd has
has_own e (x ∷ xs) has =
    ⊎_elim (λ (same : e ≡ x). subst (λ (k : Item). Has k (own_of k.caller (x ∷ xs))) (sym same)
    (subst (Has x) (sym (own_of-cons_same x.caller x xs refl)) (inl refl)))
    (λ (later : Has e xs). has_kept (x.caller == e.caller) x e (own_of e.caller xs) (has_own e xs later)) has

caller_gives : (front number : ℕ) (h : List Item) (e : Item) (rows : List Caller) → Each (λ r. own_of r.number h ≡ r.own) rows
    → Each (GivesAs front number) rows
    → Has e.caller (numbers_of rows) → Has e h → is_packet_on front e.event ≡ true → e.caller ≡ number
caller_gives front number h e [] own gives there has on = absurd there
caller_gives front number h e (r ∷ rs) own gives there has on =
    ⊎_elim (λ (same : e.caller ≡ r.number).
    let mine : own_of e.caller h ≡ r.own = ap (λ (n : ℕ). own_of n h) same ∙ own.0 in
    same ∙ each_at (λ f. is_packet_on front f.event ≡ true → r.number ≡ number) r.own e gives.0.gives (subst (Has e) mine (has_own e h has)) on)
    (λ (later : Has e.caller (numbers_of rs)). caller_gives front number h e rs own.1 gives.1 later has on) there

pub packets_are_of : (front number : ℕ) (h : List Item) (kept : List Caller) → Each IsQuiet (own_of 0 h) → Each (λ r. own_of r.number h ≡ r.own) kept
    → Each (λ e. Has e.caller (0 ∷ numbers_of kept)) h → Each (GivesAs front number) kept → PacketsAreOf number front h
packets_are_of front number h kept quiet own covered gives =
    each_has (λ e. is_packet_on front e.event ≡ true → e.caller ≡ number) h (λ e has on.
    ⊎_elim (λ (first : e.caller ≡ 0).
    let is : IsQuiet e = each_at IsQuiet (own_of 0 h) e quiet (subst (λ (n : ℕ). Has e (own_of n h)) first (has_own e h has)) in
    absurd (false≢true (sym (is.quiet front) ∙ on)))
    (λ (later : Has e.caller (numbers_of kept)). caller_gives front number h e kept own gives later has on)
    (each_at (λ f. Has f.caller (0 ∷ numbers_of kept)) h e covered has))

-- caller 0 gives no packet
stop_quiet : (full : Type 0) (h : List Item) (callers : List Caller) → StopsOnce h callers ⊎ HasNoStop full h → Each IsQuiet (own_of 0 h)
stop_quiet full h callers stopped =
    ⊎_elim (λ (once : StopsOnce h callers). subst (Each IsQuiet) (sym once.own) (quiet_event once.stop Stop once.event (λ front. refl), tt))
    (λ (none : HasNoStop full h). subst (Each IsQuiet) (sym none.own) tt) stopped

-- the pumps from a place on
pub each_plays : (c : Setting) (h : List Item) (outlet_tells full : Type 0) (all : List Caller) → GivesRecordings c h
    → ((front number : ℕ) → HasAt front number 1 all → PacketsAreOf number front h)
    → (before : List Caller) (from : ℕ) (pumps : List PumpView) (rows : List Caller)
    → all ≡ before ++ rows → from ≡ 1 + length before → Each (λ r. own_of r.number h ≡ r.own) rows → Along (PumpDone outlet_tells full) from pumps rows
    → EachAt (PlaysAt c h) from pumps
each_plays c h ot full all gives owner before from [] [] are at own along = tt
each_plays c h ot full all gives owner before from [] (r ∷ rs) are at own along = absurd along
each_plays c h ot full all gives owner before from (p ∷ ps) [] are at own along = absurd along
each_plays c h ot full all gives owner before from (p ∷ ps) (r ∷ rs) are at own along =
    let done = along.0 in
    let here : HasAt from r.number 1 all = subst (HasAt from r.number 1) (sym are) (at_place before r rs 1 from at) in
    let pumps : Pumps from p.recording (Asking None) (own_of r.number h) done.due done.early =
    subst (λ (es : List Item). Pumps from p.recording (Asking None) es done.due done.early) (sym own.0) done.pumps in
    let longer : from + 1 ≡ 1 + length (before ++ r ∷ []) = omega (arith, at, length-append before (r ∷ [])) in (
      (λ tune. gives r.number from tune p.recording done.due done.early (owner from r.number here) pumps),
      each_plays c h ot full all gives owner (before ++ r ∷ []) (from + 1) ps rs (are ∙ sym (append_assoc before (r ∷ []) rs)) longer own.1 along.1,
    )

pub plays_recordings : (conn_tells outlet_tells full : Type 0) (c : Setting) (accepts : ℕ) (pass : ServerPass) (jobs : JobsView)
    → ServeRun conn_tells outlet_tells full c accepts pass jobs → GivesRecordings c pass.seen → PlaysRecordings c pass.seen jobs.pumps
plays_recordings conn_tells outlet_tells full c accepts pass jobs run gives =
    let seen : List Item = pass.seen in
    let ours : List Caller = run.of_workers ++ run.of_pumps in
    let all : List Caller = ours ++ run.of_ticker ∷ [] in
    let ticked = run.ticked in
    let owner : (front number : ℕ) → HasAt front number 1 run.of_pumps → PacketsAreOf number front seen = λ front number at.
    packets_are_of front number seen pass.kept (stop_quiet full seen run.of_workers run.stopped) run.entries run.covered
    (subst (Each (GivesAs front number)) (sym run.callers)
    (Each-append (GivesAs front number) ours (run.of_ticker ∷ [])
    (Each-append (GivesAs front number) run.of_workers run.of_pumps
    (workers_give conn_tells outlet_tells full accepts front number 1 jobs.workers run.of_workers run.worked)
    (pumps_give outlet_tells full front number 1 jobs.pumps run.of_pumps run.pumped at))
    (quiet_gives front number run.of_ticker (ticks_quiet run.of_ticker.own ticked.moments ticked.events), tt))) in
    let own : Each (λ (r : Caller). own_of r.number seen ≡ r.own) all =
    subst (Each (λ (r : Caller). own_of r.number seen ≡ r.own)) run.callers run.entries in
    let own_pumps : Each (λ (r : Caller). own_of r.number seen ≡ r.own) run.of_pumps =
    Each-append_right (λ (r : Caller). own_of r.number seen ≡ r.own) run.of_workers run.of_pumps
    (Each-append_left (λ (r : Caller). own_of r.number seen ≡ r.own) ours (run.of_ticker ∷ []) own) in
    each_plays c seen outlet_tells full run.of_pumps gives owner [] 1 jobs.pumps run.of_pumps refl (omega arith) own_pumps run.pumped
