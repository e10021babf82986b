-- What a recording comes to, by its end.
use Rattle.std.proofs.Common.{◌≡◌, ℕ, inl, inr, true, List, [], Some, refl, sym, ◌∙◌, ap, subst, arith}
use Rattle.satip_base.specs.Streams.{Feed, Drain}
use Rattle.satip_world.specs.Dials.{Dial, fresh_dial}
use Rattle.satip_world.specs.Lines.{Line, fresh_line}
use Rattle.satip_world.specs.Inboxes.{Inbox, fresh_inbox}
use Rattle.satip_config.specs.Outcomes.{status_of}
use Rattle.satip_client.specs.declared.ending.RecordEnd.{RecordEnd}
use Rattle.satip_client.specs.declared.ending.RecordEnd.TheVariants.{Done, OutputFault, Refused, BadReply, Silent, PeerFault, Closed, OutOfMemory}
use Rattle.satip_desk.specs.Streams.{Streams}
use Rattle.satip_desk.specs.Views.{DeskView}
use Rattle.satip_recorder.specs.Outcomes.{outcome_of}
use Rattle.satip_recorder.specs.Outsides.{DeviceTells, Outside, Task, outside, task}
use Rattle.satip_recorder.specs.Recordings.{Records, Ends}
use Rattle.satip_recorder.specs.Words.{Wanted}
use Rattle.satip_recorder.specs.Ends.{FromNew, Left, Ran, RecordingEnds}

-- from devices with which nothing was done
from_new : (line : Line) (clock : Dial) (inlet : Inbox) (port : ℕ) (o : Drain) (Says : Outside → Type 0) → line ≡ fresh_line
    → clock.readings ≡ [] → inlet ≡ fresh_inbox inlet.port → port ≡ inlet.port → Says (outside line clock inlet o) → FromNew port o Says
from_new line clock inlet port o Says line_new clock_new inlet_new port_is said =
    let first : outside line clock inlet o ≡ outside fresh_line clock inlet o = ap (λ (l : Line). outside l clock inlet o) line_new in
    let second : outside fresh_line clock inlet o ≡ outside fresh_line (fresh_dial clock.told) inlet o =
    ap (λ (r : List ℕ). outside fresh_line (record { readings = r; told = clock.told }) inlet o) clock_new in
    let third : outside fresh_line (fresh_dial clock.told) inlet o ≡ outside fresh_line (fresh_dial clock.told) (fresh_inbox port) o =
    ap (λ (b : Inbox). outside fresh_line (fresh_dial clock.told) b o) (inlet_new ∙ ap (λ (k : ℕ). fresh_inbox k) (sym port_is)) in
    record { told = clock.told; said = subst Says (first ∙ second ∙ third) said }

-- the inlet keeps its port
records_port : (k : DeviceTells) (a b : Outside) (w : Task) (lines : List ℕ) (end : RecordEnd) → Records k a b w lines end
    → b.inlet.port ≡ a.inlet.port
records_port k a b w lines Done is = is.filled.port
records_port k a b w lines OutputFault is = is.port
records_port k a b w lines (Refused code) is = ap (λ (i : Inbox). i.port) is.inlet
records_port k a b w lines BadReply is = ap (λ (i : Inbox). i.port) is.inlet
records_port k a b w lines Silent (inl is) = ap (λ (i : Inbox). i.port) is.inlet
records_port k a b w lines Silent (inr is) = is.port
records_port k a b w lines PeerFault (inl is) = ap (λ (i : Inbox). i.port) is.inlet
records_port k a b w lines PeerFault (inr (inl is)) = is.port
records_port k a b w lines PeerFault (inr (inr is)) = is.filled.port
records_port k a b w lines Closed is = ap (λ (i : Inbox). i.port) is.inlet
records_port k a b w lines OutOfMemory is = ap (λ (x : Outside). x.inlet.port) is.same

abbrev streams : Feed → Drain → Drain → Streams
streams input output errors = record { input = input; output = output; errors = errors }

abbrev all_left : Line → Dial → Inbox → Left
all_left line clock inlet = record { wire = Some line; clock = Some clock; inlet = Some inlet }

-- the desk gave all three
given_ends : (k : DeviceTells) (w : Wanted) (d f : DeskView) (line : Line) (clock : Dial) (inlet : Inbox) (i : Feed) (o n e m : Drain) (end : RecordEnd)
    → f.handed.wire ≡ Some w.to → f.handed.moment ≡ true → f.handed.inlet ≡ true → f.faults ≡ d.faults
    → Ran k w (Some (outside line clock inlet n)) (streams i o e) (streams i n m) end
    → RecordingEnds k w d f (streams i o e) (streams i n m) (all_left line clock inlet) (status_of (outcome_of end))
given_ends k w d f line clock inlet i o n e m Done wire moment inside same ran = record {
  status_is = inl refl;
  input = refl;
  wire_given = wire;
  clock_given = (moment, refl);
  inlet_given = inside;
  desk = same;
  recorded = λ is. ran;
  output_rose = λ is. absurd (omega (arith, is));
  output_fault = λ is. absurd (omega (arith, is));
  refused = λ is. absurd (omega (arith, is));
  bad_reply = λ is. absurd (omega (arith, is));
  silent = λ is. absurd (omega (arith, is));
  peer_fault = λ is. absurd (omega (arith, is));
  closed = λ is. absurd (omega (arith, is));
  wants = λ is. absurd (omega (arith, is));
}
given_ends k w d f line clock inlet i o n e m OutputFault wire moment inside same ran = record {
  status_is = inr (inl refl);
  input = refl;
  wire_given = wire;
  clock_given = (moment, refl);
  inlet_given = inside;
  desk = same;
  recorded = λ is. absurd (omega (arith, is));
  output_rose = λ is. ran.said.comes.written.faults;
  output_fault = λ is. ran;
  refused = λ is. absurd (omega (arith, is));
  bad_reply = λ is. absurd (omega (arith, is));
  silent = λ is. absurd (omega (arith, is));
  peer_fault = λ is. absurd (omega (arith, is));
  closed = λ is. absurd (omega (arith, is));
  wants = λ is. absurd (omega (arith, is));
}
given_ends k w d f line clock inlet i o n e m (Refused code) wire moment inside same ran = record {
  status_is = inr (inr (inl refl));
  input = refl;
  wire_given = wire;
  clock_given = (moment, refl);
  inlet_given = inside;
  desk = same;
  recorded = λ is. absurd (omega (arith, is));
  output_rose = λ is. absurd (omega (arith, is));
  output_fault = λ is. absurd (omega (arith, is));
  refused = λ is. (code, ran);
  bad_reply = λ is. absurd (omega (arith, is));
  silent = λ is. absurd (omega (arith, is));
  peer_fault = λ is. absurd (omega (arith, is));
  closed = λ is. absurd (omega (arith, is));
  wants = λ is. absurd (omega (arith, is));
}
given_ends k w d f line clock inlet i o n e m BadReply wire moment inside same ran = record {
  status_is = inr (inr (inr (inl refl)));
  input = refl;
  wire_given = wire;
  clock_given = (moment, refl);
  inlet_given = inside;
  desk = same;
  recorded = λ is. absurd (omega (arith, is));
  output_rose = λ is. absurd (omega (arith, is));
  output_fault = λ is. absurd (omega (arith, is));
  refused = λ is. absurd (omega (arith, is));
  bad_reply = λ is. ran;
  silent = λ is. absurd (omega (arith, is));
  peer_fault = λ is. absurd (omega (arith, is));
  closed = λ is. absurd (omega (arith, is));
  wants = λ is. absurd (omega (arith, is));
}
given_ends k w d f line clock inlet i o n e m Silent wire moment inside same ran = record {
  status_is = inr (inr (inr (inr (inl refl))));
  input = refl;
  wire_given = wire;
  clock_given = (moment, refl);
  inlet_given = inside;
  desk = same;
  recorded = λ is. absurd (omega (arith, is));
  output_rose = λ is. absurd (omega (arith, is));
  output_fault = λ is. absurd (omega (arith, is));
  refused = λ is. absurd (omega (arith, is));
  bad_reply = λ is. absurd (omega (arith, is));
  silent = λ is. ran;
  peer_fault = λ is. absurd (omega (arith, is));
  closed = λ is. absurd (omega (arith, is));
  wants = λ is. absurd (omega (arith, is));
}
given_ends k w d f line clock inlet i o n e m PeerFault wire moment inside same ran = record {
  status_is = inr (inr (inr (inr (inr (inl refl)))));
  input = refl;
  wire_given = wire;
  clock_given = (moment, refl);
  inlet_given = inside;
  desk = same;
  recorded = λ is. absurd (omega (arith, is));
  output_rose = λ is. absurd (omega (arith, is));
  output_fault = λ is. absurd (omega (arith, is));
  refused = λ is. absurd (omega (arith, is));
  bad_reply = λ is. absurd (omega (arith, is));
  silent = λ is. absurd (omega (arith, is));
  peer_fault = λ is. inr ran;
  closed = λ is. absurd (omega (arith, is));
  wants = λ is. absurd (omega (arith, is));
}
given_ends k w d f line clock inlet i o n e m Closed wire moment inside same ran = record {
  status_is = inr (inr (inr (inr (inr (inr (inl refl))))));
  input = refl;
  wire_given = wire;
  clock_given = (moment, refl);
  inlet_given = inside;
  desk = same;
  recorded = λ is. absurd (omega (arith, is));
  output_rose = λ is. absurd (omega (arith, is));
  output_fault = λ is. absurd (omega (arith, is));
  refused = λ is. absurd (omega (arith, is));
  bad_reply = λ is. absurd (omega (arith, is));
  silent = λ is. absurd (omega (arith, is));
  peer_fault = λ is. absurd (omega (arith, is));
  closed = λ is. ran;
  wants = λ is. absurd (omega (arith, is));
}
given_ends k w d f line clock inlet i o n e m OutOfMemory wire moment inside same ran = record {
  status_is = inr (inr (inr (inr (inr (inr (inr (inl refl)))))));
  input = refl;
  wire_given = wire;
  clock_given = (moment, refl);
  inlet_given = inside;
  desk = same;
  recorded = λ is. absurd (omega (arith, is));
  output_rose = λ is. absurd (omega (arith, is));
  output_fault = λ is. absurd (omega (arith, is));
  refused = λ is. absurd (omega (arith, is));
  bad_reply = λ is. absurd (omega (arith, is));
  silent = λ is. absurd (omega (arith, is));
  peer_fault = λ is. absurd (omega (arith, is));
  closed = λ is. absurd (omega (arith, is));
  wants = λ is. ran;
}

-- nothing was done before with what the desk gave
pub all_given : (k : DeviceTells) (w : Wanted) (d f : DeskView) (line line2 : Line) (clock clock2 : Dial) (inlet inlet2 : Inbox) (i : Feed) (o n e m : Drain)
    (end : RecordEnd) → f.handed.wire ≡ Some w.to → f.handed.moment ≡ true → f.handed.inlet ≡ true → f.faults ≡ d.faults
    → line ≡ fresh_line → clock.readings ≡ [] → inlet ≡ fresh_inbox inlet.port
    → Ends k.errors e m end (λ (lines : List ℕ).
    Records k (outside line clock inlet o) (outside line2 clock2 inlet2 n) (task w.address w.query w.count) lines end)
    → RecordingEnds k w d f (streams i o e) (streams i n m) (all_left line2 clock2 inlet2) (status_of (outcome_of end))
all_given k w d f line line2 clock clock2 inlet inlet2 i o n e m end wire moment inside same line_new clock_new inlet_new ended =
    let a : Outside = outside line clock inlet o in
    let b : Outside = outside line2 clock2 inlet2 n in
    let t : Task = task w.address w.query w.count in
    let Says : Outside → Type 0 = λ x. Ends k.errors e m end (λ (lines : List ℕ). Records k x b t lines end) in
    let port_is = records_port k a b t ended.lines end ended.comes in
    given_ends k w d f line2 clock2 inlet2 i o n e m end wire moment inside same
    (from_new line clock inlet inlet2.port o Says line_new clock_new inlet_new port_is ended)
