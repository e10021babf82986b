-- The events of requests one after another.
use Rattle.std.proofs.Common.{◌≡◌, ◌≢◌, ℕ, suc, ◌+◌, List, [], ◌∷◌, ◌++◌, length, length-append, append_assoc, arith, refl, sym, ap, ◌∙◌}
use Rattle.std.proofs.lemmas.List.{append-nil, map-append, length-map}
use Rattle.std.proofs.lemmas.List.Concat.{flat_map-append}
use Rattle.satip_base.specs.declared.network.Peer.{Peer}
use Rattle.satip_base.specs.declared.identity.Draw.{Draw}
use Rattle.satip_rtsp.specs.declared.requests.Request.{Request}
use Rattle.satip_rtsp.specs.Asked.{asked, broken_request}
use Rattle.satip_frame.specs.Asking.{AsksMore}
use Rattle.satip_plain.specs.Histories.{Item}
use Rattle.satip_plain.specs.declared.events.Event.{Event}
use Rattle.satip_plain.specs.declared.events.Event.TheVariants.{Request as Asks}
use Rattle.satip_worker.specs.Answers.{events_of, ends_with, ends_with_last}
use Rattle.satip_worker.specs.Drawing.{draw_at}
use Rattle.satip_worker.specs.Requests.{request_events}
use Rattle.satip_worker.specs.RtspRun.{replies}
use Rattle.satip_worker.specs.Hearing.{Course, course_events, AreFirstOf}

-- the events of one list of requests after another
request_events-append : (peer : Peer) (d : ℕ → Draw) (n : ℕ) (xs ys : List Request)
    → request_events peer d n (xs ++ ys) ≡ request_events peer d n xs ++ request_events peer d (n + length xs) ys
request_events-append peer d n [] ys =
    let none : n ≡ n + 0 = omega arith in
    ap (λ (k : ℕ). request_events peer d k ys) none
request_events-append peer d n (x ∷ xs) ys =
    let one : (n + 1) + length xs ≡ n + suc (length xs) = omega arith in
    ap (λ (es : List Event). Asks peer (d n) x ∷ es)
    (request_events-append peer d (n + 1) xs ys
    ∙ ap (λ (k : ℕ). request_events peer d (n + 1) xs ++ request_events peer d k ys) one)

-- there are as many events as requests
length-request_events : (peer : Peer) (d : ℕ → Draw) (n : ℕ) (xs : List Request) → length (request_events peer d n xs) ≡ length xs
length-request_events peer d n [] = refl
length-request_events peer d n (x ∷ xs) = ap suc (length-request_events peer d (n + 1) xs)

-- as many entries as requests
pub events_counted : (course : Course) (entries : List Item) (requests : List Request) → events_of entries ≡ course_events course requests
    → length entries ≡ length requests
events_counted course entries requests are =
    sym (length-map entries (λ (e : Item). e.event))
    ∙ ap (λ (es : List Event). length es) are
    ∙ length-request_events course.peer (draw_at course.key course.stream) course.from requests

-- the event of a request that takes the next draw
abbrev pub next_event : Course → List Item → Request → Event
next_event course entries request = Asks course.peer (draw_at course.key course.stream (course.from + length entries)) request

-- one entry more for one request more
pub events_next : (course : Course) (entries : List Item) (e : Item) (requests : List Request) (request : Request)
    → events_of entries ≡ course_events course requests → e.event ≡ next_event course entries request
    → events_of (entries ++ e ∷ []) ≡ course_events course (requests ++ request ∷ [])
events_next course entries e requests request are is =
    let d : ℕ → Draw = draw_at course.key course.stream in
    let counted = events_counted course entries requests are in
    map-append (λ (x : Item). x.event) entries (e ∷ [])
    ∙ ap (λ (es : List Event). es ++ e.event ∷ []) are
    ∙ ap (λ (x : Event). course_events course requests ++ x ∷ []) is
    ∙ ap (λ (n : ℕ). course_events course requests ++ Asks course.peer (d (course.from + n)) request ∷ []) counted
    ∙ sym (request_events-append course.peer d course.from requests (request ∷ []))

-- the last entry is the one that was added
pub ends_with_last_push : (entries : List Item) (e : Item) → ends_with_last (entries ++ e ∷ []) ≡ ends_with e.answer
ends_with_last_push [] e = refl
ends_with_last_push (x ∷ []) e = refl
ends_with_last_push (x ∷ y ∷ entries) e = ends_with_last_push (y ∷ entries) e

-- the replies of one entry more
pub replies_push : (entries : List Item) (e : Item) → replies (entries ++ e ∷ []) ≡ replies entries ++ e.out.reply
replies_push entries e =
    flat_map-append (λ (x : Item). x.out.reply) entries (e ∷ []) ∙ ap (λ (r : List ℕ). replies entries ++ r) (append-nil e.out.reply)

-- there is one entry more
pub length_push : (entries : List Item) (e : Item) → length (entries ++ e ∷ []) ≡ length entries + 1
length_push entries e = omega (arith, length-append entries (e ∷ []))

-- the entries of the first of what the text asks
pub first_entries : (course : Course) (text : List ℕ) (entries : List Item) (requests : List Request) → AsksMore asked broken_request text requests
    → events_of entries ≡ course_events course requests → AreFirstOf course text entries
first_entries course text entries requests more are =
    let d : ℕ → Draw = draw_at course.key course.stream in
    let behind = request_events course.peer d (course.from + length requests) more.others in
    record {
      requests = more.all;
      asks = more.asks;
      rest = behind;
      events = ap (λ (rs : List Request). course_events course rs) more.longer
          ∙ request_events-append course.peer d course.from requests more.others
          ∙ ap (λ (es : List Event). es ++ behind) (sym are);
    }

-- the entries before one request, whose event has none
pub entries_before : (course : Course) (text : List ℕ) (entries : List Item) (requests : List Request) (request : Request)
    → AsksMore asked broken_request text (requests ++ request ∷ []) → events_of entries ≡ course_events course requests
    → (first : AreFirstOf course text entries) × (first.rest ≢ [])
entries_before course text entries requests request more are =
    let d : ℕ → Draw = draw_at course.key course.stream in
    let further : List Request = request ∷ more.others in (
      record {
        requests = more.all;
        asks = more.asks;
        rest = request_events course.peer d (course.from + length requests) further;
        events = ap (λ (rs : List Request). course_events course rs) (more.longer ∙ append_assoc requests (request ∷ []) more.others)
            ∙ request_events-append course.peer d course.from requests further
            ∙ ap (λ (es : List Event). es ++ request_events course.peer d (course.from + length requests) further) (sym are);
      },
      λ e. cc e,
    )
