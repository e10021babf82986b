-- What holds of a table at all times goes on to hold.
use Rattle.std.proofs.Common.{◌≡◌, ◌∙◌, ℕ, ◌+◌, ◌<◌, ◌≤◌, ◌&&◌, ◌||◌, nat_lt, not, Bool, true, false, cond, List, [], ◌∷◌, ◌++◌, Option, Some, unwrap_or}
use Rattle.std.proofs.Common.{length, filter, map, refl, ap, sym, subst, arith, length-append}
use Rattle.std.specs.List.{list_any, list_all}
use Rattle.std.proofs.lemmas.Bool.{eqb-false, eqb-true, ne_eqb, and_parts, and_from, or_parts, or_from, true≢false}
use Rattle.std.proofs.lemmas.List.Folds.{list_all-append}
use Rattle.std.proofs.lemmas.List.{length-map}
use Rattle.satip_base.specs.declared.identity.SessionId.{SessionId}
use Rattle.satip_pids.specs.Pids.{Pids}
use Rattle.satip_tune.specs.declared.tunings.Tuning.{Tuning}
use Rattle.satip_table.specs.declared.session.Seat.{Seat}
use Rattle.satip_table.specs.declared.session.Change.{Change}
use Rattle.satip_table.specs.declared.session.Change.TheVariants.{Heard, Playing, Address, Reported}
use Rattle.satip_table.specs.Changes.{changed_by}
use Rattle.satip_table.specs.declared.session.NewSession.{NewSession}
use Rattle.satip_table.specs.declared.session.Session.{Session}
use Rattle.satip_table.specs.declared.stream.Stream.{Stream}
use Rattle.satip_table.specs.Sessions.{changed_where, heard_at, moved_to, played, reported_at, following_id, session_of, has_id_of, has_slot, is_in, owner_of}
use Rattle.satip_table.specs.Sessions.{with_session, without}
use Rattle.satip_table.specs.Streams.{fresh, gap, least_number, has_number, is_live, kept_streams, lasts, put_stream, re_owned, stream_where, with_stream}
use Rattle.satip_table.specs.Living.{Living, NumbersRise, Owned, Sound, is_full}
use Rattle.satip_table.proofs.Listing.{all-filter, all_both, all_weaker, length-filter-le, length-filter-lt}
use Rattle.satip_table.proofs.SeatLaws.{Keeps, counts_filter, counts_map, counts_more, each_in, housed_map, owner_kept, owner_map, owner_new, owner_some}
use Rattle.satip_table.proofs.SeatLaws.{slots_filter, slots_map, slots_more, some_owner}
use Rattle.satip_table.proofs.StreamLaws.{is_gap, least-gap, live-filter, live-map, live-put, live-put_itself, numbers_filter, numbers_map, numbers_put}

-- the owners of several streams
owned_append : (seats : List Seat) (streams more : List Stream) → Owned seats streams → Owned seats more → Owned seats (streams ++ more)
owned_append seats [] more one other = other
owned_append seats (stream ∷ streams) more one other = (one.0, owned_append seats streams more one.1 other)

owned_filter : (p : Stream → Bool) (seats : List Seat) (streams : List Stream) → Owned seats streams → Owned seats (filter p streams)
owned_filter p seats [] owned = tt
owned_filter p seats (stream ∷ streams) owned = each (p stream) (owned_filter p seats streams owned.1)
  where
    each : (b : Bool) → Owned seats (filter p streams) → Owned seats (cond b (stream ∷ filter p streams) (filter p streams))
    each true rest = (owned.0, rest)
    each false rest = rest

owned_kept : (seats more : List Seat) (streams : List Stream) → Owned seats streams → Owned (seats ++ more) streams
owned_kept seats more [] owned = tt
owned_kept seats more (stream ∷ streams) owned = (owner_kept seats more stream.number stream.owner owned.0, owned_kept seats more streams owned.1)

-- a stream that doesn't live has no session
none_in : (streams : List Stream) (number : ℕ) (seats : List Seat) → list_all (λ (seat : Seat). is_live streams seat.session.stream) seats ≡ true
    → is_live streams number ≡ false → list_any (is_in number) seats ≡ false
none_in streams number [] housed dead = refl
none_in streams number (seat ∷ seats) housed dead =
    let parts = and_parts _ _ housed in
    or_from _ _ (ne_eqb seat.session.stream number (λ same. true≢false (sym parts.0 ∙ ap (is_live streams) same ∙ dead)))
    (none_in streams number seats parts.1 dead)

-- there are no more streams than sessions
lasting : (seats : List Seat) (streams : List Stream) → Owned seats streams → list_all (lasts seats) streams ≡ true
lasting seats [] owned = refl
lasting seats (stream ∷ streams) owned = and_from _ _ (some_owner seats stream.number stream.owner owned.0) (lasting seats streams owned.1)

any_others : (number other : ℕ) (seats : List Seat) → number < other
    → list_any (is_in other) (filter (λ seat. not (is_in number seat)) seats) ≡ list_any (is_in other) seats
any_others number other [] apart = refl
any_others number other (seat ∷ seats) apart = each (is_in number seat) refl (any_others number other seats apart)
  where
    each : (b : Bool) → is_in number seat ≡ b → list_any (is_in other) (filter (λ s. not (is_in number s)) seats) ≡ list_any (is_in other) seats
        → list_any (is_in other) (cond (not b) (seat ∷ filter (λ s. not (is_in number s)) seats)
        (filter (λ s. not (is_in number s)) seats)) ≡ (is_in other seat || list_any (is_in other) seats)
    each true here rest =
        let at : seat.session.stream ≡ number = eqb-true seat.session.stream number here in
        rest ∙ ap (λ b. b || list_any (is_in other) seats) (sym (ne_eqb seat.session.stream other (λ e. omega arith)))
    each false elsewhere rest = ap (λ b. is_in other seat || b) rest

lasting_others : (number : ℕ) (seats : List Seat) (streams : List Stream) → NumbersRise number streams → list_all (lasts seats) streams ≡ true
    → list_all (lasts (filter (λ seat. not (is_in number seat)) seats)) streams ≡ true
lasting_others number seats [] rise last = refl
lasting_others number seats (stream ∷ streams) rise last =
    let parts = and_parts _ _ last in
    and_from _ _ (any_others number stream.number seats rise.0 ∙ parts.0)
    (lasting_others number seats streams (lower stream.number streams rise.0 rise.1) parts.1)
  where
    lower : (above : ℕ) (more : List Stream) → number < above → NumbersRise above more → NumbersRise number more
    lower above [] less up = tt
    lower above (s ∷ more) less up = (omega (arith, up.0), up.1)

streams_few : (above : ℕ) (seats : List Seat) (streams : List Stream) → NumbersRise above streams → list_all (lasts seats) streams ≡ true
    → length streams ≤ length seats
streams_few above seats [] rise last = omega arith
streams_few above seats (stream ∷ streams) rise last =
    let parts = and_parts _ _ last in
    let others = filter (λ seat. not (is_in stream.number seat)) seats in
    let fewer : length others < length seats = length-filter-lt (is_in stream.number) seats parts.0 in
    let rest : length streams ≤ length others = streams_few stream.number others streams rise.1 (lasting_others stream.number seats streams rise.1 parts.1) in
    omega arith

pub streams_le : (v : Living) → Sound v → length v.streams ≤ length v.seats
streams_le v sound = streams_few 0 v.seats v.streams sound.numbers (lasting v.seats v.streams sound.owned)

-- a table that isn't full has room
pub room_left : (v : Living) → Sound v → is_full v ≡ false → (length v.seats < 64) × (v.made < 4294967295)
room_left v sound room =
    let parts = or_parts _ _ room in
    let seats : length v.seats ≡ 64 → ⊥ = eqb-false (length v.seats) 64 parts.0 in
    let made : v.made ≡ 4294967295 → ⊥ = eqb-false v.made 4294967295 parts.1 in
    (omega (arith, sound.few), omega (arith, sound.made))

-- a session joins a living stream
pub sound_joined : (v : Living) (seat : Seat) → Sound v → length v.seats < 64 → v.made < 4294967295 → seat.session.id.count ≡ v.made + 1 → seat.slot < 64
    → list_any (has_slot seat.slot) v.seats ≡ false → is_live v.streams seat.session.stream ≡ true
    → Sound (record { seats = v.seats ++ seat ∷ []; streams = v.streams; made = v.made + 1 })
sound_joined v seat sound room left next within free lives = record {
  few = omega (arith, length-append v.seats (seat ∷ []));
  made = omega arith;
  counts = counts_more 0 v.made v.seats seat next sound.counts;
  slots = slots_more v.seats seat within free sound.slots;
  numbers = sound.numbers;
  owned = owned_kept v.seats (seat ∷ []) v.streams sound.owned;
  housed = list_all-append (λ (s : Seat). is_live v.streams s.session.stream) v.seats (seat ∷ []) ∙ and_from _ _ sound.housed (and_from _ _ lives refl);
}

-- a session owns a new stream
pub sound_founded : (v : Living) (seat : Seat) (number : ℕ) → Sound v → length v.seats < 64 → v.made < 4294967295 → seat.session.id.count ≡ v.made + 1
    → seat.slot < 64 → list_any (has_slot seat.slot) v.seats ≡ false
    → seat.session.stream ≡ number → 0 < number → is_live v.streams number ≡ false
    → Sound (record { seats = v.seats ++ seat ∷ []; streams = put_stream (fresh number seat.session.id) v.streams; made = v.made + 1 })
unfolding put_stream fresh
sound_founded v seat number sound room left next within free at positive dead =
    let stream = fresh number seat.session.id in
    let all = v.seats ++ seat ∷ [] in
    let old = owned_kept v.seats (seat ∷ []) v.streams sound.owned in
    let none = none_in v.streams number v.seats sound.housed dead in
    let here : is_live (put_stream stream v.streams) seat.session.stream ≡ true = ap (is_live (put_stream stream v.streams)) at
    ∙ live-put_itself stream v.streams in
    record {
      few = omega (arith, length-append v.seats (seat ∷ []));
      made = omega arith;
      counts = counts_more 0 v.made v.seats seat next sound.counts;
      slots = slots_more v.seats seat within free sound.slots;
      numbers = numbers_put 0 stream v.streams sound.numbers positive;
      owned = owned_append all _ _ (owned_filter (λ (other : Stream). nat_lt other.number number) all v.streams old)
          (owner_new v.seats seat number none at, owned_filter (λ (other : Stream). nat_lt number other.number) all v.streams old);
      housed = list_all-append (λ (s : Seat). is_live (put_stream stream v.streams) s.session.stream) v.seats (seat ∷ [])
          ∙ and_from _ _ (all_weaker (λ (s : Seat). is_live v.streams s.session.stream) _ v.seats
          (λ s lives. live-put stream v.streams s.session.stream lives) sound.housed) (and_from _ _ here refl);
    }

-- the streams that are left, with their owners
re_owned_number : (seats : List Seat) (stream : Stream) → (re_owned seats stream).number ≡ stream.number
unfolding re_owned
re_owned_number seats stream = refl

owned_again : (seats : List Seat) (streams : List Stream) → Owned seats (map (re_owned seats) (filter (lasts seats) streams))
unfolding re_owned
owned_again seats [] = tt
owned_again seats (stream ∷ streams) = each (lasts seats stream) refl (owned_again seats streams)
  where
    each : (b : Bool) → lasts seats stream ≡ b → Owned seats (map (re_owned seats) (filter (lasts seats) streams))
        → Owned seats (map (re_owned seats) (cond b (stream ∷ filter (lasts seats) streams) (filter (lasts seats) streams)))
    each true some rest =
        let first = owner_some seats stream.number some in
        (first.1 ∙ ap (λ o. Some (unwrap_or o stream.owner)) (sym first.1), rest)
    each false _ rest = rest

-- the streams are as they were, where the sessions are
pub kept_same : (seats : List Seat) (streams : List Stream) → Owned seats streams → kept_streams seats streams ≡ streams
unfolding kept_streams re_owned
kept_same seats [] owned = refl
kept_same seats (stream ∷ streams) owned =
    let some = some_owner seats stream.number stream.owner owned.0 in
    ap (λ b. map (re_owned seats) (cond b (stream ∷ filter (lasts seats) streams) (filter (lasts seats) streams))) some
    ∙ ap (λ o. record stream { owner = unwrap_or o stream.owner } ∷ map (re_owned seats) (filter (lasts seats) streams)) owned.0
    ∙ ap (λ ss. stream ∷ ss) (kept_same seats streams owned.1)

pub sound_left : (v : Living) (id : SessionId) → Sound v
    → Sound (record { seats = without id v.seats; streams = kept_streams (without id v.seats) v.streams; made = v.made })
unfolding kept_streams
sound_left v id sound =
    let keep : Seat → Bool = λ seat. not (has_id_of id seat) in
    let seats = without id v.seats in
    let few : length seats ≤ length v.seats = length-filter-le keep v.seats in
    let lives = all-filter keep (λ (s : Seat). is_live v.streams s.session.stream) v.seats sound.housed in
    let each = each_in seats seats (λ stream some. some) in
    let both = all_both (λ (s : Seat). is_live v.streams s.session.stream) (λ (s : Seat). list_any (is_in s.session.stream) seats) seats lives each in
    record {
      few = omega (arith, sound.few);
      made = sound.made;
      counts = counts_filter keep 0 v.made v.seats sound.counts;
      slots = slots_filter keep v.seats sound.slots;
      numbers = numbers_map (re_owned seats) (re_owned_number seats) 0 (filter (lasts seats) v.streams)
          (numbers_filter (lasts seats) 0 v.streams sound.numbers);
      owned = owned_again seats v.streams;
      housed = all_weaker (λ (s : Seat). is_live v.streams s.session.stream && list_any (is_in s.session.stream) seats) _ seats
          (λ s held. live-map (re_owned seats) (re_owned_number seats) s.session.stream (filter (lasts seats) v.streams)
          ∙ live-filter (λ n. list_any (is_in n) seats) s.session.stream v.streams ∙ held) both;
    }

-- a change of sessions that keeps slot, id and stream
owned_map : (g : Seat → Seat) → Keeps g → (seats : List Seat) (streams : List Stream) → Owned seats streams → Owned (map g seats) streams
owned_map g keeps seats [] owned = tt
owned_map g keeps seats (stream ∷ streams) owned = (owner_map g keeps stream.number seats ∙ owned.0, owned_map g keeps seats streams owned.1)

pub sound_changed : (v : Living) (g : Seat → Seat) → Keeps g → Sound v → Sound (record v { seats = map g v.seats })
sound_changed v g keeps sound = record {
  few = omega (arith, length-map v.seats g, sound.few);
  made = sound.made;
  counts = counts_map g keeps 0 v.made v.seats sound.counts;
  slots = slots_map g keeps v.seats sound.slots;
  numbers = sound.numbers;
  owned = owned_map g keeps v.seats v.streams sound.owned;
  housed = housed_map g keeps (is_live v.streams) v.seats ∙ sound.housed;
}

-- a change of streams that keeps number and owner
owned_rename : (h : Stream → Stream) (seats : List Seat) (streams : List Stream) → ((stream : Stream) → (h stream).number ≡ stream.number)
    → ((stream : Stream) → (h stream).owner ≡ stream.owner) → Owned seats streams → Owned seats (map h streams)
owned_rename h seats [] number owner owned = tt
owned_rename h seats (stream ∷ streams) number owner owned =
    (ap (owner_of seats) (number stream) ∙ owned.0 ∙ ap Some (sym (owner stream)), owned_rename h seats streams number owner owned.1)

pub sound_streams : (v : Living) (h : Stream → Stream) → ((stream : Stream) → (h stream).number ≡ stream.number)
    → ((stream : Stream) → (h stream).owner ≡ stream.owner) → Sound v → Sound (record v { streams = map h v.streams })
sound_streams v h number owner sound = record {
  few = sound.few;
  made = sound.made;
  counts = sound.counts;
  slots = sound.slots;
  numbers = numbers_map h number 0 v.streams sound.numbers;
  owned = owned_rename h v.seats v.streams number owner sound.owned;
  housed = all_weaker (λ (s : Seat). is_live v.streams s.session.stream) _ v.seats (λ s lives. live-map h number s.session.stream v.streams
      ∙ lives) sound.housed;
}

-- the same, where the session was made for the table
session_count : (made : ℕ) (session : NewSession) (stream : ℕ) → (session_of made session stream).id.count ≡ made + 1
unfolding session_of following_id
session_count made session stream = refl

session_stream : (made : ℕ) (session : NewSession) (stream : ℕ) → (session_of made session stream).stream ≡ stream
unfolding session_of following_id
session_stream made session stream = refl

pub session_id : (made : ℕ) (session : NewSession) (stream : ℕ) → (session_of made session stream).id ≡ following_id made session
unfolding session_of
session_id made session stream = refl

pub stored_joined : (v : Living) (new : NewSession) (session : Session) (slot stream : ℕ) (seats : List Seat) → Sound v → is_full v ≡ false
    → session ≡ session_of v.made new stream → slot < 64 → list_any (has_slot slot) v.seats ≡ false → is_live v.streams stream ≡ true
    → seats ≡ v.seats ++ record { slot = slot; session = session } ∷ [] → Sound (record { seats = seats; streams = v.streams; made = v.made + 1 })
stored_joined v new session slot stream seats sound room made within free lives pushed =
    let left = room_left v sound room in
    let seat : Seat = record { slot = slot; session = session } in
    let count = ap (λ (s : Session). s.id.count) made ∙ session_count v.made new stream in
    let at = ap (λ (s : Session). s.stream) made ∙ session_stream v.made new stream in
    subst (λ (ss : List Seat). Sound (record { seats = ss; streams = v.streams; made = v.made + 1 })) (sym pushed)
    (sound_joined v seat sound left.0 left.1 count within free (ap (is_live v.streams) at ∙ lives))

pub stored_founded : (v : Living) (new : NewSession) (session : Session) (slot number : ℕ) (seats : List Seat) (stream : Stream) (streams : List Stream)
    → Sound v → is_full v ≡ false → session ≡ session_of v.made new number → slot < 64 → list_any (has_slot slot) v.seats ≡ false
    → number ≡ gap 1 v.streams + 1 → stream ≡ fresh number session.id → streams ≡ put_stream stream v.streams
    → seats ≡ v.seats ++ record { slot = slot; session = session } ∷ [] → Sound (record { seats = seats; streams = streams; made = v.made + 1 })
stored_founded v new session slot number seats stream streams sound room made within free at first put pushed =
    let left = room_left v sound room in
    let seat : Seat = record { slot = slot; session = session } in
    let count = ap (λ (s : Session). s.id.count) made ∙ session_count v.made new number in
    let here = ap (λ (s : Session). s.stream) made ∙ session_stream v.made new number in
    let behind : number ≡ 0 + 1 + gap 1 v.streams = omega (arith, at) in
    let dead = (is_gap 0 number v.streams sound.numbers behind).dead in
    subst (λ (ss : List Seat). Sound (record { seats = ss; streams = streams; made = v.made + 1 })) (sym pushed)
    (subst (λ (ts : List Stream). Sound (record { seats = v.seats ++ seat ∷ []; streams = ts; made = v.made + 1 }))
    (sym (put ∙ ap (λ t. put_stream t v.streams) first))
    (sound_founded v seat number sound left.0 left.1 count within free here (omega (arith, at)) dead))

-- the free number
pub number_within : (v : Living) (number : ℕ) → Sound v → is_full v ≡ false → number ≡ gap 1 v.streams + 1 → number ≤ 64
number_within v number sound room at =
    let left = room_left v sound room in
    let behind : number ≡ 0 + 1 + gap 1 v.streams = omega (arith, at) in
    let within = (is_gap 0 number v.streams sound.numbers behind).within in
    omega (arith, streams_le v sound, left.0, within, at)

pub number_least : (v : Living) (number : ℕ) → Sound v → is_full v ≡ false → number ≡ gap 1 v.streams + 1 → number ≡ least_number (is_live v.streams)
number_least v number sound room at =
    let behind : number ≡ 0 + 1 + gap 1 v.streams = omega (arith, at) in
    least-gap number v.streams sound.numbers behind (number_within v number sound room at)

-- what of a session changes isn't its id or its stream
changed_id : (change : Change) (session : Session) → (changed_by change session).id ≡ session.id
unfolding heard_at played moved_to reported_at
changed_id (Heard now) session = refl
changed_id Playing session = refl
changed_id (Address peer ports) session = refl
changed_id (Reported now) session = refl

changed_stream : (change : Change) (session : Session) → (changed_by change session).stream ≡ session.stream
unfolding heard_at played moved_to reported_at
changed_stream (Heard now) session = refl
changed_stream Playing session = refl
changed_stream (Address peer ports) session = refl
changed_stream (Reported now) session = refl

where_keeps : (id : SessionId) (change : Change) → Keeps (changed_where id (changed_by change))
unfolding changed_where
where_keeps id change = record {
  slot = λ seat. slot_of seat (has_id_of id seat);
  id = λ seat. id_of seat (has_id_of id seat);
  stream = λ seat. stream_of seat (has_id_of id seat);
}
  where
    slot_of : (seat : Seat) (b : Bool) → (cond b (record seat { session = changed_by change seat.session }) seat).slot ≡ seat.slot
    slot_of seat true = refl
    slot_of seat false = refl

    id_of : (seat : Seat) (b : Bool) → (cond b (record seat { session = changed_by change seat.session }) seat).session.id ≡ seat.session.id
    id_of seat true = changed_id change seat.session
    id_of seat false = refl

    stream_of : (seat : Seat) (b : Bool) → (cond b (record seat { session = changed_by change seat.session }) seat).session.stream ≡ seat.session.stream
    stream_of seat true = changed_stream change seat.session
    stream_of seat false = refl

pub sound_set : (v : Living) (id : SessionId) (change : Change) (seats : List Seat) → Sound v → seats ≡ with_session id (changed_by change) v.seats
    → Sound (record v { seats = seats })
sound_set v id change seats sound changed =
    subst (λ (ss : List Seat). Sound (record v { seats = ss })) (sym changed)
    (sound_changed v (changed_where id (changed_by change)) (where_keeps id change) sound)

-- nor a stream's number or owner
where_number : (number : ℕ) (tuning : Option Tuning) (front : Option ℕ) (pids : Pids) (stream : Stream)
    → (stream_where number tuning front pids stream).number ≡ stream.number
unfolding stream_where
where_number number tuning front pids stream = each (has_number number stream)
  where
    each : (b : Bool) → (cond b (record stream { tuning = tuning; front = front; pids = pids }) stream).number ≡ stream.number
    each true = refl
    each false = refl

where_owner : (number : ℕ) (tuning : Option Tuning) (front : Option ℕ) (pids : Pids) (stream : Stream)
    → (stream_where number tuning front pids stream).owner ≡ stream.owner
unfolding stream_where
where_owner number tuning front pids stream = each (has_number number stream)
  where
    each : (b : Bool) → (cond b (record stream { tuning = tuning; front = front; pids = pids }) stream).owner ≡ stream.owner
    each true = refl
    each false = refl

pub sound_retuned : (v : Living) (number : ℕ) (tuning : Option Tuning) (front : Option ℕ) (pids : Pids) (streams : List Stream) → Sound v
    → streams ≡ with_stream number tuning front pids v.streams → Sound (record v { streams = streams })
sound_retuned v number tuning front pids streams sound changed =
    subst (λ (ss : List Stream). Sound (record v { streams = ss })) (sym changed)
    (sound_streams v (stream_where number tuning front pids) (where_number number tuning front pids) (where_owner number tuning front pids) sound)

pub stored_left : (v : Living) (id : SessionId) (seats : List Seat) (streams : List Stream) → Sound v → seats ≡ without id v.seats
    → streams ≡ kept_streams seats v.streams → Sound (record v { seats = seats; streams = streams })
stored_left v id seats streams sound removed kept =
    subst (λ (ss : List Seat). Sound (record v { seats = ss; streams = streams })) (sym removed)
    (subst (λ (ts : List Stream). Sound (record v { seats = without id v.seats; streams = ts })) (sym (kept ∙ ap (λ ss. kept_streams ss v.streams) removed))
    (sound_left v id sound))
