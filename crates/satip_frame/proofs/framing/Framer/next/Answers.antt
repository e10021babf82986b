use Rattle.std.proofs.Common.{refl, ap, subst, arith}
use Rattle.satip_frame.specs.declared.looking.Front.TheVariants.{Whole, More, Bad, TooLong}
use Rattle.satip_frame.specs.Held.{Held, step_of}
use Rattle.satip_frame.specs.Stream.{Broken, skip_newlines, Ends}
use Rattle.satip_frame.specs.Inner.{IsState}
use Rattle.satip_frame.proofs.FramerLemmas.{nothing_seen, stands, at_more, at_bad, at_too_long, ended_here, held_shorter, ended_told, ended_exact, whole_within, whole_place, whole_told, whole_exact, end_told, end_exact, unfinished_short}
use Rattle.satip_frame.proofs.framing.Framer.next.Goals as goal

pub invariant_of-self : goal.invariant_of-self
invariant_of-self c =
    let f = c.find_front-start.ensures in
    let here = stands {b = Whole c.in-Whole.found} c.deref.ensures.value c.in-Whole.is f.within f.start f.front in
    record {
      start_within = omega (arith, whole_within here);
      held = c.self.invariant.held;
      room = c.self.invariant.room;
      rests = whole_place here;
      known = nothing_seen _;
    }

pub returns-in-Whole : goal.returns-in-Whole
returns-in-Whole c =
    let f = c.find_front-start.ensures in
    let here = stands {b = Whole c.in-Whole.found} c.deref.ensures.value c.in-Whole.is f.within f.start f.front in
    let held = ap (λ (v : Held). v.bytes) c.self.view_is in
    record {
      told = whole_told here _ held;
      exact = λ text ms tail leads messages. absurd (whole_exact here _ held text ms tail leads messages);
      found = (λ _. refl, λ _. refl);
      ended = refl;
      shorter = held_shorter here _ held _ (omega arith);
      room = λ e. absurd (cc);
    }

pub returns-in-More : goal.returns-in-More
returns-in-More c =
    let f = c.find_front-start.ensures in
    let here = stands {b = More c.in-More.seen} c.deref.ensures.value c.in-More.is f.within f.start f.front in
    let end = at_more here in
    let held = ap (λ (v : Held). v.bytes) c.self.view_is in
    record {
      told = end_told end _ held;
      exact = λ text ms tail leads messages. ap step_of (end_exact end _ held text ms tail leads messages);
      found = (λ e. absurd (cc), λ e. absurd (cc));
      ended = refl;
      shorter = held_shorter here _ held _ (omega arith);
      room = λ _. unfinished_short _ here.is_front.0;
    }

pub invariant_of-self-in-More : goal.invariant_of-self-in-More
invariant_of-self-in-More c =
    let f = c.find_front-start.ensures in
    let here = stands {b = More c.in-More.seen} c.deref.ensures.value c.in-More.is f.within f.start f.front in
    record {
      start_within = omega (arith, here.within);
      held = c.self.invariant.held;
      room = c.self.invariant.room;
      rests = tt;
      known = here.is_front.1;
    }

pub returns-in-Bad : goal.returns-in-Bad
returns-in-Bad c =
    let f = c.find_front-start.ensures in
    let here = stands {b = Bad} c.deref.ensures.value c.in-Bad.is f.within f.start f.front in
    let end = at_bad here in
    let held = ap (λ (v : Held). v.bytes) c.self.view_is in
    record {
      told = end_told end _ held;
      exact = λ text ms tail leads messages. ap step_of (end_exact end _ held text ms tail leads messages);
      found = (λ e. absurd (cc), λ e. absurd (cc));
      ended = refl;
      shorter = held_shorter here _ held _ (omega arith);
      room = λ e. absurd (cc);
    }

pub returns-in-TooLong : goal.returns-in-TooLong
returns-in-TooLong c =
    let f = c.find_front-start.ensures in
    let here = stands {b = TooLong} c.deref.ensures.value c.in-TooLong.is f.within f.start f.front in
    let end = at_too_long here in
    let held = ap (λ (v : Held). v.bytes) c.self.view_is in
    record {
      told = end_told end _ held;
      exact = λ text ms tail leads messages. ap step_of (end_exact end _ held text ms tail leads messages);
      found = (λ e. absurd (cc), λ e. absurd (cc));
      ended = refl;
      shorter = held_shorter here _ held _ (omega arith);
      room = λ e. absurd (cc);
    }

pub invariant_of-self-in-Bad : goal.invariant_of-self-in-Bad
invariant_of-self-in-Bad c =
    let f = c.find_front-start.ensures in
    let here = stands {b = Bad} c.deref.ensures.value c.in-Bad.is f.within f.start f.front in
    record {
      start_within = omega (arith, here.within);
      held = c.self.invariant.held;
      room = c.self.invariant.room;
      rests = ended_here (at_bad here);
      known = nothing_seen _;
    }

pub invariant_of-self-in-TooLong : goal.invariant_of-self-in-TooLong
invariant_of-self-in-TooLong c =
    let f = c.find_front-start.ensures in
    let here = stands {b = TooLong} c.deref.ensures.value c.in-TooLong.is f.within f.start f.front in
    record {
      start_within = omega (arith, here.within);
      held = c.self.invariant.held;
      room = c.self.invariant.room;
      rests = ended_here (at_too_long here);
      known = nothing_seen _;
    }

pub returns-in-Ended-clause-told : goal.returns-in-Ended-clause-told
returns-in-Ended-clause-told c =
    let held = ap (λ (v : Held). v.bytes) c.self.view_is in
    let rests = subst (IsState c.self.inside.buffer.items c.self.inside.start c.self.inside.headers) c.in-Ended.is c.self.invariant.rests in
    ended_told c.args.self.now c.in-Ended.cause c.step_of.result c.step_of.ensures.step
    (subst (λ b. Ends (skip_newlines b) (Broken c.in-Ended.cause)) held rests)

pub returns-in-Ended-clause-exact : goal.returns-in-Ended-clause-exact
returns-in-Ended-clause-exact c =
    let held = ap (λ (v : Held). v.bytes) c.self.view_is in
    let rests = subst (IsState c.self.inside.buffer.items c.self.inside.start c.self.inside.headers) c.in-Ended.is c.self.invariant.rests in
    ended_exact c.args.self.now.bytes c.in-Ended.cause c.step_of.result c.step_of.ensures.step
    (subst (λ b. Ends (skip_newlines b) (Broken c.in-Ended.cause)) held rests)
