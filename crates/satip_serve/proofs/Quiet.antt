-- Entries that are no packets: those of workers and of the ticker.
use Rattle.std.proofs.Common.{◌≡◌, ℕ, ◌+◌, ◌⊎◌, false, List, [], ◌∷◌, ◌++◌, map, Option, Some, None, refl, sym, ap, ◌∙◌, subst, ⊎_elim}
use Rattle.satip_base.specs.declared.identity.Draw.{Draw}
use Rattle.satip_base.specs.declared.identity.SessionId.{SessionId}
use Rattle.satip_base.specs.declared.network.Peer.{Peer}
use Rattle.satip_base.specs.Lists.{Each}
use Rattle.satip_base.proofs.Elements.{Each-append}
use Rattle.satip_http.specs.declared.requests.HttpRequest.{HttpRequest}
use Rattle.satip_laws.specs.Recorded.{is_packet_on}
use Rattle.satip_plain.specs.declared.answers.Answer.{Answer}
use Rattle.satip_plain.specs.declared.answers.Answer.TheVariants.{Get as Got, Pulled}
use Rattle.satip_plain.specs.declared.answers.GetAnswer.TheVariants.{Started, Refused}
use Rattle.satip_plain.specs.declared.answers.Pulled.TheVariants.{Bytes, Empty, Gone}
use Rattle.satip_plain.specs.declared.events.Event.{Event}
use Rattle.satip_plain.specs.declared.events.Event.TheVariants.{Request as Asks, Get, Tick, Pull, Close}
use Rattle.satip_plain.specs.Histories.{Item}
use Rattle.satip_rtsp.specs.declared.requests.Request.{Request}
use Rattle.satip_world.specs.declared.doors.ConnEnd.{ConnEnd}
use Rattle.satip_world.specs.declared.doors.ConnEnd.TheVariants.{Done, ReadFault, WriteFault}
use Rattle.satip_world.specs.declared.doors.DoorKind.{DoorKind}
use Rattle.satip_world.specs.declared.doors.DoorKind.TheVariants.{Rtsp, Http}
use Rattle.satip_world.specs.Halls.{Return}
use Rattle.satip_worker.specs.Answers.{events_of}
use Rattle.satip_worker.specs.Drawing.{DrawRange}
use Rattle.satip_worker.specs.HttpRun.{asked_first, Closes, SentWhole, SentCut, Follows, FollowsEmpty, FollowsPull, Pulls, FollowsGet, Gets, HttpEntries}
use Rattle.satip_worker.specs.Requests.{request_events}
use Rattle.satip_worker.specs.Served.{ConnRun}
use Rattle.satip_worker.specs.WorkerRun.{ServesAll}

-- it is no packet, of whichever front end
pub record IsQuiet (e : Item) : Type 0 where
  pub quiet : (front : ℕ) → is_packet_on front e.event ≡ false

-- as its event says
pub quiet_event : (e : Item) (event : Event) → e.event ≡ event → ((front : ℕ) → is_packet_on front event ≡ false) → IsQuiet e
quiet_event e event is quiet = record { quiet = λ front. ap (is_packet_on front) is ∙ quiet front }

none_of : (entries : List Item) → entries ≡ [] → Each IsQuiet entries
none_of entries is = subst (Each IsQuiet) (sym is) tt

-- the first elements and the rests of lists that are the same
first_same : {T : Type 0} (x y : T) (xs ys : List T) → x ∷ xs ≡ y ∷ ys → x ≡ y
first_same x y xs ys is = cc

rest_same : {T : Type 0} (x y : T) (xs ys : List T) → x ∷ xs ≡ y ∷ ys → xs ≡ ys
rest_same x y xs ys is = cc

no_first : {T : Type 0} (x : T) (xs : List T) → [] ≡ x ∷ xs → ⊥
no_first x xs is = cc

-- of an RTSP connection
requests_quiet : (peer : Peer) (drawn : ℕ → Draw) (n : ℕ) (requests : List Request) (entries : List Item) (rest : List Event)
    → request_events peer drawn n requests ≡ events_of entries ++ rest → Each IsQuiet entries
requests_quiet peer drawn n requests [] rest are = tt
requests_quiet peer drawn n [] (e ∷ es) rest are = absurd (no_first e.event (events_of es ++ rest) are)
requests_quiet peer drawn n (r ∷ rs) (e ∷ es) rest are = (
  quiet_event e (Asks peer (drawn n) r) (sym (first_same (Asks peer (drawn n) r) e.event (request_events peer drawn (n + 1) rs) (events_of es ++ rest) are))
      (λ front. refl),
  requests_quiet peer drawn (n + 1) rs es rest (rest_same (Asks peer (drawn n) r) e.event (request_events peer drawn (n + 1) rs) (events_of es ++ rest) are),
)

-- of an HTTP connection
closes_quiet : (id : SessionId) (cause end : ConnEnd) (entries : List Item) → Closes id cause end entries → Each IsQuiet entries
closes_quiet id cause end [] closes = tt
closes_quiet id cause end (e ∷ []) closes = (quiet_event e (Close id) closes.0 (λ front. refl), tt)
closes_quiet id cause end (e ∷ f ∷ es) closes = absurd closes

follows_quiet : (id : SessionId) (end : ConnEnd) (reply sent : List ℕ) (entries : List Item) (GoesOn : List ℕ → Type 0)
    → Follows id end reply sent entries GoesOn
    → ((rest : List ℕ) → GoesOn rest → Each IsQuiet entries) → Each IsQuiet entries
follows_quiet id end reply sent entries GoesOn follows on =
    ⊎_elim (λ (whole : SentWhole reply sent GoesOn). on whole.rest whole.goes_on)
    (λ (cut : SentCut id end reply sent entries). closes_quiet id WriteFault end entries cut.closes) follows

empty_quiet : (id : SessionId) (end : ConnEnd) (sent : List ℕ) (entries : List Item) (GoesOn : List ℕ → Type 0) → FollowsEmpty id end sent entries GoesOn
    → ((rest : List ℕ) → GoesOn rest → Each IsQuiet entries) → Each IsQuiet entries
empty_quiet id end sent entries GoesOn follows on =
    ⊎_elim (λ (goes : GoesOn sent). on sent goes)
    (λ (over : (sent ≡ []) × (Closes id Done end entries ⊎ Closes id ReadFault end entries)).
    ⊎_elim (λ (done : Closes id Done end entries). closes_quiet id Done end entries done)
    (λ (failed : Closes id ReadFault end entries). closes_quiet id ReadFault end entries failed) over.1) follows

pull_quiet : (id : SessionId) (end : ConnEnd) (answer : Answer) (reply sent : List ℕ) (entries : List Item) (GoesOn : List ℕ → Type 0)
    → FollowsPull id end answer reply sent entries GoesOn → ((rest : List ℕ) → GoesOn rest → Each IsQuiet entries) → Each IsQuiet entries
pull_quiet id end (Pulled (Bytes count)) reply sent entries GoesOn follows on = follows_quiet id end reply sent entries GoesOn follows on
pull_quiet id end (Pulled Empty) reply sent entries GoesOn follows on = empty_quiet id end sent entries GoesOn follows on
pull_quiet id end (Pulled Gone) reply sent entries GoesOn follows on = none_of entries follows.0
pull_quiet id end _ reply sent entries GoesOn follows on = absurd follows

pulls_quiet : (id : SessionId) (end : ConnEnd) (entries : List Item) (sent : List ℕ) → Pulls id end entries sent → Each IsQuiet entries
pulls_quiet id end [] sent pulls = tt
pulls_quiet id end (e ∷ es) sent pulls = (
  quiet_event e (Pull id) pulls.0 (λ front. refl),
  pull_quiet id end e.answer e.out.reply sent es (Pulls id end es) pulls.1 (λ rest on. pulls_quiet id end es rest on),
)

get_quiet : (end : ConnEnd) (answer : Answer) (reply sent : List ℕ) (entries : List Item) → FollowsGet end answer reply sent entries → Each IsQuiet entries
get_quiet end (Got (Refused status)) reply sent entries follows = none_of entries follows.0
get_quiet end (Got (Started id)) reply sent entries follows =
    follows_quiet id end reply sent entries (Pulls id end entries) follows (λ rest on. pulls_quiet id end entries rest on)
get_quiet end _ reply sent entries follows = absurd follows

gets_quiet : (peer : Peer) (draw : Draw) (request : HttpRequest) (end : ConnEnd) (entries : List Item) (sent : List ℕ) → Gets peer draw request end entries sent
    → Each IsQuiet entries
gets_quiet peer draw request end [] sent gets = tt
gets_quiet peer draw request end (e ∷ es) sent gets = (
  quiet_event e (Get peer draw request) gets.0 (λ front. refl),
  get_quiet end e.answer e.out.reply sent es gets.1,
)

pub http_quiet : (peer : Peer) (drawn : ℕ → Draw) (from to : ℕ) (end : ConnEnd) (entries : List Item) (sent : List ℕ) (asked : Option HttpRequest)
    → HttpEntries peer drawn from to end entries sent asked → Each IsQuiet entries
http_quiet peer drawn from to end entries sent None run = none_of entries run.0
http_quiet peer drawn from to end entries sent (Some request) run = gets_quiet peer (drawn from) request end entries sent run.0

conn_quiet : (kind : DoorKind) (peer : Peer) (draws : DrawRange) (received sent : List ℕ) (end : ConnEnd) (entries : List Item)
    → ConnRun kind peer draws received sent end entries → Each IsQuiet entries
conn_quiet Rtsp peer draws received sent end entries run = requests_quiet peer draws.drawn draws.from run.requests entries run.rest run.events
conn_quiet Http peer draws received sent end entries run =
    http_quiet peer draws.drawn draws.from draws.to end entries sent (asked_first run.messages run.tail) run.entries_are

-- of all connections of a worker
pub serves_quiet : (tells : Type 0) (drawn : ℕ → Draw) (from to : ℕ) (returns : List Return) (entries : List Item)
    → ServesAll tells drawn from to returns entries
    → Each IsQuiet entries
serves_quiet tells drawn from to [] entries serves = none_of entries serves.1
serves_quiet tells drawn from to (r ∷ rs) entries serves =
    let one = serves.4 in
    subst (Each IsQuiet) (sym serves.3)
    (Each-append IsQuiet serves.1 serves.2 (conn_quiet r.kind r.peer (record { drawn = drawn; from = from; to = serves.0 }) one.received one.sent r.end serves.1 one.run)
    (serves_quiet tells drawn serves.0 to rs serves.2 serves.5))

-- of the ticker
pub ticks_quiet : (entries : List Item) (moments : List ℕ) → map (λ e. e.event) entries ≡ map Tick moments → Each IsQuiet entries
ticks_quiet [] moments are = tt
ticks_quiet (e ∷ es) [] are = absurd (no_first e.event (map (λ (f : Item). f.event) es) (sym are))
ticks_quiet (e ∷ es) (moment ∷ moments) are = (
  quiet_event e (Tick moment) (first_same e.event (Tick moment) (map (λ (f : Item). f.event) es) (map Tick moments) are) (λ front. refl),
  ticks_quiet es moments (rest_same e.event (Tick moment) (map (λ (f : Item). f.event) es) (map Tick moments) are),
)
