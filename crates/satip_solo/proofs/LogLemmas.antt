-- What a call adds to a log, and what its caller then knows.
use Rattle.std.proofs.Common.{◌≡◌, ℕ, Bool, true, false, if◌then◌else◌, List, [], ◌∷◌, ◌++◌, length, append-nil, refl, sym, ◌∙◌, ap, subst, Option, Some, None, IfSome, Result, Ok, Err, MatchResult}
use Rattle.satip_base.specs.Output.{Output}
use Rattle.satip_base.specs.declared.entry.Taken.{Taken}
use Rattle.satip_base.specs.History.{entry, own_of, taken}
use Rattle.satip_base.proofs.Owned.{own_of-append, own_of-push_same}
use Rattle.satip_plain.specs.declared.answers.Answer.{Answer}
use Rattle.satip_plain.specs.declared.answers.Answer.TheVariants.{Beat as AnswerBeat}
use Rattle.satip_plain.specs.declared.answers.Beat.{Beat}
use Rattle.satip_plain.specs.declared.answers.Beat.TheVariants.{Stopping}
use Rattle.satip_plain.specs.declared.events.Event.{Event}
use Rattle.satip_plain.specs.declared.events.Event.TheVariants.{Stop}
use Rattle.satip_plain.specs.Histories.{Item, Legal, after}
use Rattle.satip_plain.specs.declared.fault.ServiceFault.{ServiceFault}
use Rattle.satip_plain.specs.declared.fault.ServiceFault.TheVariants.{Want}
use Rattle.satip_plain.specs.Known.{Adds}
use Rattle.satip_plain.specs.Calls.{Called, Cause}
use Rattle.satip_plain.specs.Suits.{Suits}
use Rattle.satip_plain.proofs.Suiting.{last_suits}
use Rattle.satip_core.specs.Held.{Held}
use Rattle.satip_core.specs.Serving.{StandsAfter, Steps}
use Rattle.satip_core.proofs.HistoryLemmas.{stands_more}
use Rattle.satip_solo.specs.Log.{Log, Before, Goes, GoesOn, is_at, is_due, known_of}
use Rattle.satip_solo.specs.Inside.{IsSound, Stopped}

-- the Stop was made, and answered Stopping
pub stop_made : (s t : Held) (es : List Item) (beat : Beat) (out : Output) → t.setting ≡ s.setting → Steps s Stop t (AnswerBeat beat) out
    → Stopped true s es t (es ++ entry 1 Stop (AnswerBeat Stopping) out ∷ [])
stop_made s t es beat out same steps = record {
  before = entry 1 Stop (AnswerBeat Stopping) out ∷ [];
  stops = (out, refl);
  grows = refl;
  stands = λ h stands.
      let is : AnswerBeat beat ≡ AnswerBeat Stopping = (steps (after s.setting h) stands.stands).answer in
      let P : Answer → Type 0 = λ answer. StandsAfter t (h ++ entry 1 Stop answer out ∷ []) in
      subst P is (stands_more s t h 1 Stop (AnswerBeat beat) out tt same steps stands);
  same_setting = same;
}

-- no Stop was made
pub stop_passed : (due : Bool) (s : Held) (es : List Item) → due ≡ false → Stopped due s es s es
stop_passed due s es is =
    let P : Bool → Type 0 = λ d. Stopped d s es s es in
    subst P (sym is) (record {
      before = [];
      stops = refl;
      grows = sym (append-nil es);
      stands = λ h stands.
          let Q : List Item → Type 0 = λ k. StandsAfter s k in
          subst Q (sym (append-nil h)) stands;
      same_setting = refl;
    })

-- as long as no Stop was made, each entry is of the caller's own
unstopped_more : (due : Bool) (stop : Option ℕ) (es before : List Item) (e : Item) → e.caller ≡ 0 → Before due before → IfSome stop (λ _. own_of 0 es ≡ es)
    → IfSome (if due then None else stop) (λ _. own_of 0 ((es ++ before) ++ e ∷ []) ≡ (es ++ before) ++ e ∷ [])
unstopped_more true stop es before e own stops alone = tt
unstopped_more false None es before e own stops alone = tt
unstopped_more false (Some at) es before e own stops alone =
    let P : List Item → Type 0 = λ h. own_of 0 h ≡ h in
    let front : P (es ++ before) = subst P (sym (ap (λ (b : List Item). es ++ b) stops ∙ append-nil es)) alone in
    own_of-push_same 0 (es ++ before) e own ∙ ap (λ (h : List Item). h ++ e ∷ []) front

-- the Stop was made where it was due, and then an event of caller 0
pub record Calls (s : Held) (es : List Item) (stop : Option ℕ) (event : Event) (answer : Answer) (out : Output) (t : Held) (fs : List Item)
    (stop' : Option ℕ) : Type 0 where
  pub sound : IsSound t fs stop'
  pub goes : Goes (record { setting = s.setting; entries = es; stop = stop }) event answer out (record { setting = t.setting; entries = fs; stop = stop' })

due_same : (stop : Option ℕ) (es : List Item) → IfSome stop (λ _. own_of 0 es ≡ es) → is_at stop (length es) ≡ is_at stop (length (own_of 0 es))
due_same None es alone = refl
due_same (Some at) es alone = ap (λ (h : List Item). is_at (Some at) (length h)) (sym alone)

pub call_made : (s m t : Held) (es ms fs : List Item) (stop stop' : Option ℕ) (event : Event) (answer : Answer) (out : Output)
    → IsSound s es stop → Stopped (is_at stop (length es)) s es m ms → stop' ≡ (if is_at stop (length es) then None else stop)
    → t.setting ≡ m.setting → ((h : List Item) → StandsAfter m h → StandsAfter t (h ++ entry 0 event answer out ∷ []))
    → fs ≡ ms ++ entry 0 event answer out ∷ [] → Calls s es stop event answer out t fs stop'
call_made s m t es ms fs stop stop' event answer out sound stopped then_stop same stands grows =
    let e : Item = entry 0 event answer out in
    let whole : fs ≡ (es ++ stopped.before) ++ e ∷ [] = grows ∙ ap (λ (h : List Item). h ++ e ∷ []) stopped.grows in
    let due = due_same stop es sound.unstopped in
    let P : List Item → Type 0 = λ h. StandsAfter t h in
    let Q : List Item → Type 0 = λ h. IfSome (if is_at stop (length es) then None else stop) (λ _. own_of 0 h ≡ h) in
    let R : Option ℕ → Type 0 = λ o. IfSome o (λ _. own_of 0 fs ≡ fs) in
    let D : Bool → Type 0 = λ d. Before d stopped.before in
    let T : Bool → Type 0 = λ d. stop' ≡ (if d then None else stop) in
    record {
      sound = record {
        stands = subst P (sym whole) (stands (es ++ stopped.before) (stopped.stands es sound.stands));
        unstopped = subst R (sym then_stop)
            (subst Q (sym whole) (unstopped_more (is_at stop (length es)) stop es stopped.before e refl stopped.stops sound.unstopped));
      };
      goes = record {
        before = stopped.before;
        stops = subst D due stopped.stops;
        grows = whole;
        then_stop = subst T due then_stop;
        same_setting = same ∙ stopped.same_setting;
      };
    }

-- none of what comes before is of the caller
before_of_others : (due : Bool) (before : List Item) → Before due before → own_of 0 before ≡ []
before_of_others true before stops = ap (λ (b : List Item). own_of 0 b) stops.1
before_of_others false before stops = ap (λ (b : List Item). own_of 0 b) stops

-- what the caller knows then
pub adds_by : (k l : Log) (event : Event) (answer : Answer) (out : Output) → Goes k event answer out l
    → Adds (known_of k) (known_of l) (entry 0 event answer out)
adds_by k l event answer out goes =
    let e : Item = entry 0 event answer out in
    record {
      between = goes.before;
      seen = goes.grows;
      own = ap (λ (h : List Item). own_of 0 h) goes.grows ∙ own_of-push_same 0 (k.entries ++ goes.before) e refl
          ∙ ap (λ (h : List Item). h ++ e ∷ []) (own_of-append 0 k.entries goes.before
          ∙ ap (λ (h : List Item). own_of 0 k.entries ++ h) (before_of_others (is_due k) goes.before goes.stops) ∙ append-nil (own_of 0 k.entries));
    }

pub suits_by : (k l : Log) (event : Event) (answer : Answer) (out : Output) → Goes k event answer out l → Legal l.setting l.entries → Suits event answer
suits_by k l event answer out goes legal =
    let P : List Item → Type 0 = λ h. Legal l.setting h in
    last_suits l.setting (k.entries ++ goes.before) (entry 0 event answer out) (subst P goes.grows legal)

pub called_by : (k l : Log) (event : Event) (out : Output) (result : Result Answer ServiceFault)
    → MatchResult result (λ answer. Goes k event answer out l) (λ fault. (fault ≡ Want) × (l ≡ k)) → Legal l.setting l.entries
    → Called true (known_of k) (known_of l) event out result
called_by k l event out (Ok answer) goes legal =
    record { caller = 0; adds = adds_by k l event answer out goes; suits = suits_by k l event answer out goes legal }
called_by k l event out (Err fault) same legal =
    let P : ServiceFault → Type 0 = λ f. Cause true (known_of l) f in
    record {
      adds = record {
        more = [];
        seen = ap (λ (m : Log). m.entries) same.1 ∙ sym (append-nil k.entries);
        own = ap (λ (m : Log). own_of 0 m.entries) same.1;
      };
      cause = subst P (sym same.0) refl;
    }

pub setting_by : (k l : Log) (event : Event) (out : Output) (result : Result Answer ServiceFault)
    → MatchResult result (λ answer. Goes k event answer out l) (λ fault. (fault ≡ Want) × (l ≡ k)) → l.setting ≡ k.setting
setting_by k l event out (Ok answer) goes = goes.same_setting
setting_by k l event out (Err fault) same = ap (λ (m : Log). m.setting) same.1

-- one call more
pub goes_on_more : (k l m : Log) (ts : List (Taken Event Answer Output)) (event : Event) (answer : Answer) (out : Output)
    → GoesOn k ts l → Goes l event answer out m → GoesOn k (ts ++ taken event answer out ∷ []) m
goes_on_more k l m [] event answer out on goes =
    let P : Log → Type 0 = λ j. Goes j event answer out m in
    (m, subst P (sym on) goes, refl)
goes_on_more k l m (t ∷ ts) event answer out on goes = (on.0, on.1, goes_on_more on.0 l m ts event answer out on.2 goes)
