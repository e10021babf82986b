-- Lines and their parts.
use Rattle.std.proofs.Common.{◌≡◌, ℕ, Bool, true, false, List, [], Option, Some, None, Result, Ok, Err, refl, sym, ap, subst}
use Rattle.std.specs.Prelude.{MatchBool, IsOk, IsSome, IsSomeAnd, is_some, option_map}
use Rattle.std.specs.Bool.{OnTrue}
use Rattle.std.specs.Result.{result_ok}
use Rattle.hex.specs.declared.error.FromHexError.{FromHexError}
use Rattle.satip_frame.specs.declared.framing.Break.{Break}
use Rattle.satip_frame.specs.Said.{Said}
use Rattle.satip_frame.specs.Held.{Held}
use Rattle.satip_frame.specs.Stream.{Begins}
use Rattle.satip_rtsp.specs.declared.requests.Request.{Request as RtspRequest}
use Rattle.satip_http.specs.declared.requests.HttpRequest.{HttpRequest}
use Rattle.satip_plain.specs.Types.{Draw, Peer}
use Rattle.satip_plain.specs.declared.events.Event.{Event}
use Rattle.satip_plain.specs.declared.events.Event.TheVariants.{Request, Get, Packet}
use Rattle.satip_script.specs.declared.lines.Line.{Line}
use Rattle.satip_script.specs.declared.lines.Line.TheVariants.{Skip, Event as EventLine, Wrong}
use Rattle.satip_script.specs.declared.messages.Look.{Look}
use Rattle.satip_script.specs.declared.messages.Look.TheVariants.{Whole as LookWhole, NotWhole as LookNotWhole, Nothing}
use Rattle.satip_script.specs.declared.parts.EventParts.{EventParts}
use Rattle.satip_script.specs.Lines.{words_of, is_skipped_text}
use Rattle.satip_script.specs.Forms.{Form, Rtsp, Http, Other, call_from, form_of, packet_event}
use Rattle.satip_script.specs.Reading.{IsFormed, IsLine}
use Rattle.satip_script.specs.Texts.{Told, Whole, NotWhole, Tells, request_of, get_of}
use Rattle.satip_script.specs.InParts.{AreParts, AreWrong, Asks, AsksNothing, IsInParts, form_in}
use Rattle.satip_script.specs.Inner.{Says, Sees, SeesIn}
use Rattle.satip_script.proofs.LawProofs.{one_formed}
use Rattle.satip_script.proofs.TextLemmas.{found_told}

-- ---- a line and its parts

line_by : (skipped : Bool) (form other : Option Form) (l : Line) → skipped ≡ false → form ≡ other → IsFormed other l
    → MatchBool skipped (l ≡ Skip) (IsFormed form l)
line_by true form other l kept is x = cc kept
line_by false form other l kept is x = subst (λ f. IsFormed f l) (sym is) x

-- the line is what its parts ask for
pub line_of_parts : (line : List ℕ) (parts : EventParts) (l : Line) → IsInParts line parts → IsFormed (form_in parts) l → IsLine line l
line_of_parts line parts l has x = line_by (is_skipped_text line) (form_of (words_of line)) (form_in parts) l has.kept has.form x

parts_by : (skipped : Bool) (form other : Option Form) (l : Line) → skipped ≡ false → form ≡ other → MatchBool skipped (l ≡ Skip) (IsFormed form l)
    → IsFormed other l
parts_by true form other l kept is x = cc kept
parts_by false form other l kept is x = subst (λ f. IsFormed f l) is x

-- and its parts ask for what it is
pub parts_of_line : (line : List ℕ) (parts : EventParts) (l : Line) → IsInParts line parts → IsLine line l → IsFormed (form_in parts) l
parts_of_line line parts l has x = parts_by (is_skipped_text line) (form_of (words_of line)) (form_in parts) l has.kept has.form x

-- parts are those of one event
pub one_event : (parts : EventParts) (e f : Event) → AreParts parts e → AreParts parts f → e ≡ f
one_event parts e f x y = let same : EventLine e ≡ EventLine f = one_formed (form_in parts) (EventLine e) (EventLine f) x y in cc same

-- where they are wrong, of none
pub no_event : (parts : EventParts) (e : Event) → AreWrong parts → AreParts parts e → ⊥
no_event parts e x y = let same : Wrong ≡ EventLine e = one_formed (form_in parts) Wrong (EventLine e) x y in cc same

-- ---- what texts in digits ask for

pub rtsp_asked : (peer : Peer) (draw : Draw) (text : Option (List ℕ)) (request : RtspRequest) → Asks request_of text request
    → IsFormed (option_map Rtsp (call_from (Some peer.ip) (Some draw) text)) (EventLine (Request peer draw request))
rtsp_asked peer draw None request x = absurd x
rtsp_asked peer draw (Some text) request x = (x.0, x.1, ap (Request peer draw) x.2)

pub rtsp_wrong : (peer : Peer) (draw : Draw) (text : Option (List ℕ)) → AsksNothing text
    → IsFormed (option_map Rtsp (call_from (Some peer.ip) (Some draw) text)) Wrong
rtsp_wrong peer draw None x = refl
rtsp_wrong peer draw (Some text) x = x

pub rtsp_some : (peer : Peer) (draw : Draw) (text : Option (List ℕ)) → Says text
    → (e : Event) × IsFormed (option_map Rtsp (call_from (Some peer.ip) (Some draw) text)) (EventLine e)
rtsp_some peer draw None x = absurd x
rtsp_some peer draw (Some text) x = (Request peer draw (request_of x.0), (x.0, x.1, refl))

pub http_asked : (peer : Peer) (draw : Draw) (text : Option (List ℕ)) (request : HttpRequest) → Asks get_of text request
    → IsFormed (option_map Http (call_from (Some peer.ip) (Some draw) text)) (EventLine (Get peer draw request))
http_asked peer draw None request x = absurd x
http_asked peer draw (Some text) request x = (x.0, x.1, ap (Get peer draw) x.2)

pub http_wrong : (peer : Peer) (draw : Draw) (text : Option (List ℕ)) → AsksNothing text
    → IsFormed (option_map Http (call_from (Some peer.ip) (Some draw) text)) Wrong
http_wrong peer draw None x = refl
http_wrong peer draw (Some text) x = x

pub http_some : (peer : Peer) (draw : Draw) (text : Option (List ℕ)) → Says text
    → (e : Event) × IsFormed (option_map Http (call_from (Some peer.ip) (Some draw) text)) (EventLine e)
http_some peer draw None x = absurd x
http_some peer draw (Some text) x = (Get peer draw (get_of x.0), (x.0, x.1, refl))

-- ---- packets in digits

packet_formed : (front tune : ℕ) (read : Option (List ℕ)) → is_some read ≡ true
    → (e : Event) × IsFormed (option_map Other (packet_event (Some front) (Some tune) read)) (EventLine e)
packet_formed front tune None some = cc some
packet_formed front tune (Some packet) some = (Packet front tune packet, refl)

pub packet_some : (front tune : ℕ) (read : Option (List ℕ)) (some : Bool) → some ≡ is_some read
    → OnTrue some ((e : Event) × IsFormed (option_map Other (packet_event (Some front) (Some tune) read)) (EventLine e))
packet_some front tune read true is = packet_formed front tune read (sym is)
packet_some front tune read false is = tt

pub true_to : {P Q : Type 0} (b : Bool) → OnTrue b P → (P → Q) → OnTrue b Q
true_to true x f = f x
true_to false x f = tt

-- ---- what was seen of digits

-- a text's bytes are seen
pub seen_in : (read : Result (List ℕ) FromHexError) (held : Held) (look : Look) → IsOk read → ((text : List ℕ) → read ≡ Ok text → Sees text held look)
    → SeesIn (result_ok read) held look
seen_in (Ok text) held look ok sees = sees text refl
seen_in (Err e) held look ok sees = cc ok

some_found : (o : Option Said) (P : Said → Type 0) → IsSomeAnd o P → IsSome o
some_found None P x = absurd x
some_found (Some m) P x = refl

pub found_in : (text : Option (List ℕ)) (held : Held) → SeesIn text held LookWhole → IsSome held.found
found_in None held x = absurd x
found_in (Some text) held x = some_found held.found (λ m. Begins text m []) x

pub asks_whole : {R : Type 0} (text : Option (List ℕ)) (held : Held) (of : Said → R) (told_of : Told → R) → ((m : Said) → told_of (Whole m) ≡ of m)
    → (r : R) → SeesIn text held LookWhole → IsSomeAnd held.found (λ m. r ≡ of m) → Asks told_of text r
asks_whole None held of told_of same r x y = absurd x
asks_whole (Some text) held of told_of same r x y = found_told held.found text of told_of same r x y

pub asks_broken : {R : Type 0} (text : Option (List ℕ)) (held : Held) (cause : Break) (told_of : Told → R)
    → (r : R) → SeesIn text held (LookNotWhole cause) → r ≡ told_of (NotWhole cause) → Asks told_of text r
asks_broken None held cause told_of r x y = absurd x
asks_broken (Some text) held cause told_of r x y = (NotWhole cause, x, y)

pub asks_nothing : (text : Option (List ℕ)) (held : Held) → SeesIn text held Nothing → AsksNothing text
asks_nothing None held x = tt
asks_nothing (Some text) held x = x

said_whole : (o : Option Said) (text : List ℕ) → IsSomeAnd o (λ m. Begins text m []) → (told : Told) × Tells text told
said_whole None text x = absurd x
said_whole (Some m) text x = (Whole m, x)

pub says_whole : (text : Option (List ℕ)) (held : Held) → SeesIn text held LookWhole → Says text
says_whole None held x = absurd x
says_whole (Some text) held x = said_whole held.found text x

pub says_broken : (text : Option (List ℕ)) (held : Held) (cause : Break) → SeesIn text held (LookNotWhole cause) → Says text
says_broken None held cause x = absurd x
says_broken (Some text) held cause x = (NotWhole cause, x)
