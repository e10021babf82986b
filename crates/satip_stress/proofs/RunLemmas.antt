-- A run that goes on event by event.
use Rattle.std.proofs.Common.{◌≡◌, ℕ, suc, ◌+◌, ◌-◌, ◌%◌, ◌<◌, ◌≤◌, ◌==◌, ◌&&◌, nat_le, true, false, if◌then◌else◌, List, [], ◌∷◌, ◌++◌, refl, sym, ◌∙◌, ap, subst, arith}
use Rattle.std.proofs.lemmas.Bool.Decides.{nat_tests}
use Rattle.std.specs.Prelude.{None, Some}
use Rattle.satip_query.specs.Queries.{new_query}
use Rattle.satip_base.specs.Output.{Datagram, Output}
use Rattle.satip_plain.specs.declared.answers.Answer.{Answer}
use Rattle.satip_plain.specs.declared.events.Event.{Event}
use Rattle.satip_plain.specs.declared.events.Event.TheVariants.{Request as Asked, Tick, Packet}
use Rattle.satip_plain.specs.declared.setting.Setting.{Setting}
use Rattle.satip_plain.specs.Steps.{Outcome, step}
use Rattle.satip_plain.specs.Types.{Config, Draw, Peer, Request}
use Rattle.satip_plain.specs.Histories.{opening}
use Rattle.satip_script.specs.Runs.{run, run_from}
use Rattle.satip_core.specs.Standing.{StandsFor}
use Rattle.satip_core.specs.Serving.{Stands, Steps}
use Rattle.satip_stress.specs.declared.counted.Counted.{Counted}
use Rattle.satip_stress.specs.declared.counting.Counts.{Counts}
use Rattle.satip_stress.specs.declared.running.Run.{Run}
use Rattle.satip_stress.specs.Counted.{none_counted, with_entry}
use Rattle.satip_stress.specs.Counting.{counts}
use Rattle.satip_stress.specs.Making.{event_of, moment_after, cseq_after, events_of, words_from, word, first, second, draw_of, founding_query, setup, options, play, adding, removing, packet_of, pid_in, opening_events, stress_setting}
use Rattle.satip_stress.specs.Running.{ComesTo, Goes, Makes, Opens, plus}
use Rattle.satip_stress.proofs.CountLemmas.{plus_before, plus_entry, plus_nothing}

-- ---- one event

-- a step of the server, of which the answer and the datagrams are counted
pub makes_step : (old new : Counted) (e : Event) (said : Answer) (out : Output) → Steps old.server e new.server said out
    → new.server.setting ≡ old.server.setting
    → new.counts ≡ with_entry old.counts said out.datagrams → Makes old e new
makes_step old new e said out steps setting counted st stands =
    let did = steps st stands in
    let o = step old.server.setting.config st e in
    record {
      stands = subst (λ (s : Setting). StandsFor s.config new.server.kept o.state) (sym setting) did.stands;
      counts = counted
          ∙ ap (λ (a : Answer). with_entry old.counts a out.datagrams) did.answer
          ∙ ap (λ (ds : List Datagram). with_entry old.counts o.answer ds) did.datagrams;
    }

-- the same event, by other values that are equal
pub makes_asked : (old new : Counted) (peer other : Peer) (draw drawn : Draw) (r asked : Request) → peer ≡ other → draw ≡ drawn → r ≡ asked
    → Makes old (Asked peer draw r) new → Makes old (Asked other drawn asked) new
makes_asked old new peer other draw drawn r asked p d q made =
    subst (λ (x : Request). Makes old (Asked other drawn x) new) q
    (subst (λ (x : Draw). Makes old (Asked other x r) new) d
    (subst (λ (x : Peer). Makes old (Asked x draw r) new) p made))

pub makes_packet : (old new : Counted) (packet other : List ℕ) → packet ≡ other → Makes old (Packet 1 1 packet) new → Makes old (Packet 1 1 other) new
makes_packet old new packet other is made = subst (λ (x : List ℕ). Makes old (Packet 1 1 x) new) is made

pub goes_as : (old new : Run) (e f : Event) (m n k l : ℕ) → f ≡ e → n ≡ m → l ≡ k → Goes old e m k new → Goes old f n l new
goes_as old new e f m n k l event moment cseq goes =
    subst (λ (x : Event). Goes old x n l new) (sym event)
    (subst (λ (x : ℕ). Goes old e x l new) (sym moment)
    (subst (λ (x : ℕ). Goes old e m x new) (sym cseq) goes))

-- ---- the run

-- before its first event
pub comes_first : (now : Counted) (events : List Event) → now.server.setting ≡ stress_setting → Stands now.server (opening stress_setting)
    → now.counts ≡ none_counted → ComesTo (counts (run stress_setting events)) now events
comes_first now events setting stands none = record {
  state = opening stress_setting;
  stands = stands;
  comes = ap (λ (c : Counts). plus c (counts (run_from now.server.setting.config (opening stress_setting) events))) none
      ∙ plus_before (counts (run_from now.server.setting.config (opening stress_setting) events))
      ∙ ap (λ (s : Setting). counts (run_from s.config (opening stress_setting) events)) setting;
}

-- behind one more
pub comes_next : (total : Counts) (old new : Counted) (e : Event) (others : List Event) → ComesTo total old (e ∷ others)
    → Makes old e new → new.server.setting ≡ old.server.setting → ComesTo total new others
comes_next total old new e others comes makes setting =
    let cfg : Config = old.server.setting.config in
    let o : Outcome = step cfg comes.state e in
    let did = makes comes.state comes.stands in
    record {
      state = o.state;
      stands = did.stands;
      comes = ap (λ (s : Setting). plus new.counts (counts (run_from s.config o.state others))) setting
          ∙ ap (λ (c : Counts). plus c (counts (run_from cfg o.state others))) did.counts
          ∙ plus_entry old.counts e o (run_from cfg o.state others)
          ∙ comes.comes;
    }

-- behind the last
pub comes_last : (total : Counts) (now : Counted) → ComesTo total now [] → now.counts ≡ total
comes_last total now comes = sym (plus_nothing now.counts) ∙ comes.comes

comes_as : (total : Counts) (now : Counted) (events others : List Event) → events ≡ others → ComesTo total now events → ComesTo total now others
comes_as total now events others is comes = subst (λ (es : List Event). ComesTo total now es) is comes

-- behind the events that open a run

opening_are : (others : List Event) → opening_events ++ others
    ≡ Tick 1000
    ∷ Asked first.peer (draw_of 1) (setup 1 None founding_query 1400)
    ∷ Asked first.peer (draw_of 0) (play 2 first new_query)
    ∷ Asked second.peer (draw_of 2) (setup 3 (Some 1) new_query 1500)
    ∷ Asked second.peer (draw_of 0) (play 4 second new_query)
    ∷ others
unfolding opening_events
opening_are others = refl

comes_five : (total : Counts) (a b c d e f : Counted) (v w x y z : Event) (others : List Event) → ComesTo total a (v ∷ w ∷ x ∷ y ∷ z ∷ others)
    → Makes a v b → b.server.setting ≡ a.server.setting
    → Makes b w c → c.server.setting ≡ b.server.setting
    → Makes c x d → d.server.setting ≡ c.server.setting
    → Makes d y e → e.server.setting ≡ d.server.setting
    → Makes e z f → f.server.setting ≡ e.server.setting
    → ComesTo total f others
comes_five total a b c d e f v w x y z others comes v_made v_same w_made w_same x_made x_same y_made y_same z_made z_same =
    comes_next total e f z others
    (comes_next total d e y (z ∷ others)
    (comes_next total c d x (y ∷ z ∷ others)
    (comes_next total b c w (x ∷ y ∷ z ∷ others)
    (comes_next total a b v (w ∷ x ∷ y ∷ z ∷ others) comes v_made v_same)
    w_made w_same) x_made x_same) y_made y_same) z_made z_same

pub opens_by : (a b c d e f : Counted) → a.server.setting ≡ stress_setting → Stands a.server (opening stress_setting) → a.counts ≡ none_counted
    → Makes a (Tick 1000) b → b.server.setting ≡ a.server.setting
    → Makes b (Asked first.peer (draw_of 1) (setup 1 None founding_query 1400)) c → c.server.setting ≡ b.server.setting
    → Makes c (Asked first.peer (draw_of 0) (play 2 first new_query)) d → d.server.setting ≡ c.server.setting
    → Makes d (Asked second.peer (draw_of 2) (setup 3 (Some 1) new_query 1500)) e → e.server.setting ≡ d.server.setting
    → Makes e (Asked second.peer (draw_of 0) (play 4 second new_query)) f → f.server.setting ≡ e.server.setting
    → Opens f
opens_by a b c d e f setting stands none v_made v_same w_made w_same x_made x_same y_made y_same z_made z_same others =
    let total : Counts = counts (run stress_setting (opening_events ++ others)) in
    comes_five total a b c d e f _ _ _ _ _ others
    (comes_as total a (opening_events ++ others) _ (opening_are others) (comes_first a (opening_events ++ others) setting stands none))
    v_made v_same w_made w_same x_made x_same y_made y_same z_made z_same

-- ---- the event of a word

pub event_ticks : (w moment cseq : ℕ) → w % 64 ≡ 0 → event_of w moment cseq ≡ Tick (moment + 40)
unfolding event_of
event_ticks w moment cseq is = rw is refl

pub event_first : (w moment cseq : ℕ) → w % 64 ≡ 1 → event_of w moment cseq ≡ Asked first.peer (draw_of 0) (options cseq first)
unfolding event_of
event_first w moment cseq is = rw is refl

pub event_second : (w moment cseq : ℕ) → w % 64 ≡ 2 → event_of w moment cseq ≡ Asked second.peer (draw_of 0) (options cseq second)
unfolding event_of
event_second w moment cseq is = rw is refl

pub event_adds : (w moment cseq : ℕ) → w % 64 ≡ 3
    → event_of w moment cseq ≡ Asked first.peer (draw_of 0) (play cseq first (adding (pid_in w)))
unfolding event_of
event_adds w moment cseq is = rw is refl

pub event_removes : (w moment cseq : ℕ) → w % 64 ≡ 4
    → event_of w moment cseq ≡ Asked first.peer (draw_of 0) (play cseq first (removing (pid_in w)))
unfolding event_of
event_removes w moment cseq is = rw is refl

kind_packet : (k moment cseq pid : ℕ) → 5 ≤ k
    → (if k == 0 then Tick (moment + 40)
    else if k == 1 then Asked first.peer (draw_of 0) (options cseq first)
    else if k == 2 then Asked second.peer (draw_of 0) (options cseq second)
    else if k == 3 then Asked first.peer (draw_of 0) (play cseq first (adding pid))
    else if k == 4 then Asked first.peer (draw_of 0) (play cseq first (removing pid))
    else Packet 1 1 (packet_of pid)) ≡ Packet 1 1 (packet_of pid)
kind_packet k moment cseq pid far =
    let a : (k == 0) ≡ false = grind (arith, nat_tests) in
    let b : (k == 1) ≡ false = grind (arith, nat_tests) in
    let c : (k == 2) ≡ false = grind (arith, nat_tests) in
    let d : (k == 3) ≡ false = grind (arith, nat_tests) in
    let e : (k == 4) ≡ false = grind (arith, nat_tests) in
    rw (a, b, c, d, e) refl

pub event_packet : (w moment cseq : ℕ) → 5 ≤ w % 64 → event_of w moment cseq ≡ Packet 1 1 (packet_of (pid_in w))
unfolding event_of
event_packet w moment cseq far = kind_packet (w % 64) moment cseq (pid_in w) far

-- ---- the moment and the number behind it

pub moment_ticks : (w moment : ℕ) → w % 64 ≡ 0 → moment_after w moment ≡ moment + 40
unfolding moment_after
moment_ticks w moment is = rw is refl

moment_by : (k moment : ℕ) → 1 ≤ k → (if k == 0 then moment + 40 else moment) ≡ moment
moment_by k moment some =
    let a : (k == 0) ≡ false = grind (arith, nat_tests) in
    rw a refl

pub moment_rests : (w moment : ℕ) → 1 ≤ w % 64 → moment_after w moment ≡ moment
unfolding moment_after
moment_rests w moment some = moment_by (w % 64) moment some

cseq_by : (k cseq : ℕ) → 1 ≤ k → k ≤ 4 → (if nat_le 1 k && nat_le k 4 then cseq + 1 else cseq) ≡ cseq + 1
cseq_by k cseq least most =
    let a : nat_le 1 k ≡ true = grind (arith, nat_tests) in
    let b : nat_le k 4 ≡ true = grind (arith, nat_tests) in
    rw (a, b) refl

pub cseq_asks : (w cseq : ℕ) → 1 ≤ w % 64 → w % 64 ≤ 4 → cseq_after w cseq ≡ cseq + 1
unfolding cseq_after
cseq_asks w cseq least most = cseq_by (w % 64) cseq least most

pub cseq_ticks : (w cseq : ℕ) → w % 64 ≡ 0 → cseq_after w cseq ≡ cseq
unfolding cseq_after
cseq_ticks w cseq is = rw is refl

cseq_past : (k cseq : ℕ) → 5 ≤ k → (if nat_le 1 k && nat_le k 4 then cseq + 1 else cseq) ≡ cseq
cseq_past k cseq far =
    let a : nat_le 1 k ≡ true = grind (arith, nat_tests) in
    let b : nat_le k 4 ≡ false = grind (arith, nat_tests) in
    rw (a, b) refl

pub cseq_rests : (w cseq : ℕ) → 5 ≤ w % 64 → cseq_after w cseq ≡ cseq
unfolding cseq_after
cseq_rests w cseq far = cseq_past (w % 64) cseq far

-- ---- the words

-- the events of the words from a place on begin with that of the word there
pub events_more : (seed place left more moment cseq : ℕ) → left ≡ suc more
    → events_of (words_from seed place left) moment cseq
    ≡ event_of (word seed place) moment cseq
    ∷ events_of (words_from seed (place + 1) more) (moment_after (word seed place) moment) (cseq_after (word seed place) cseq)
unfolding events_of
events_more seed place left more moment cseq is = rw is refl

pub events_none : (seed place left moment cseq : ℕ) → left ≡ 0 → events_of (words_from seed place left) moment cseq ≡ []
unfolding events_of
events_none seed place left moment cseq is = rw is refl

-- before the first word
pub comes_opened : (total : Counts) (now : Counted) (seed count left m k : ℕ) → left ≡ count → m ≡ 1000 → k ≡ 5
    → ComesTo total now (events_of (words_from seed 0 count) 1000 5) → ComesTo total now (events_of (words_from seed 0 left) m k)
comes_opened total now seed count left m k all moment cseq comes =
    comes_as total now _ _
    (ap (λ (n : ℕ). events_of (words_from seed 0 n) 1000 5) (sym all)
    ∙ ap (λ (n : ℕ). events_of (words_from seed 0 left) n 5) (sym moment)
    ∙ ap (λ (n : ℕ). events_of (words_from seed 0 left) m n) (sym cseq)) comes

-- behind the event of one word more
pub comes_on : (total : Counts) (old new : Run) (seed place count w : ℕ) → place < count → w ≡ word seed place
    → ComesTo total old.counted (events_of (words_from seed place (count - place)) old.moment old.cseq)
    → Goes old (event_of w old.moment old.cseq) (moment_after w old.moment) (cseq_after w old.cseq) new
    → ComesTo total new.counted (events_of (words_from seed (place + 1) (count - (place + 1))) new.moment new.cseq)
comes_on total old new seed place count w inside is comes goes =
    let v : ℕ = word seed place in
    let words : List ℕ = words_from seed (place + 1) (count - (place + 1)) in
    let made = subst (λ (x : ℕ). Makes old.counted (event_of x old.moment old.cseq) new.counted) is goes.made in
    let moment : moment_after v old.moment ≡ new.moment = ap (λ (x : ℕ). moment_after x old.moment) (sym is) ∙ sym goes.moment_is in
    let cseq : cseq_after v old.cseq ≡ new.cseq = ap (λ (x : ℕ). cseq_after x old.cseq) (sym is) ∙ sym goes.cseq_is in
    let begins = comes_as total old.counted _ _
    (events_more seed place (count - place) (count - (place + 1)) old.moment old.cseq (omega (arith, inside))) comes in
    let next = comes_next total old.counted new.counted (event_of v old.moment old.cseq) (events_of words (moment_after v old.moment) (cseq_after v old.cseq))
    begins made goes.setting in
    comes_as total new.counted _ _
    (ap (λ (n : ℕ). events_of words n (cseq_after v old.cseq)) moment ∙ ap (λ (n : ℕ). events_of words new.moment n) cseq) next

-- behind the last word
pub comes_done : (total : Counts) (now : Counted) (seed place count m k : ℕ) → count ≤ place
    → ComesTo total now (events_of (words_from seed place (count - place)) m k) → now.counts ≡ total
comes_done total now seed place count m k all comes =
    comes_last total now (comes_as total now _ [] (events_none seed place (count - place) m k (omega (arith, all))) comes)
