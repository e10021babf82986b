use Rattle.std.specs.Prelude.{option_map}
use Rattle.satip_plain.specs.declared.events.Event.TheVariants.{Request}
use Rattle.satip_plain.specs.declared.answers.Answer.TheVariants.{Replied as RepliedAnswer}
use Rattle.satip_ts.specs.Digits.{bytes_of}
use Rattle.satip_script.specs.Forms.{Rtsp}
use Rattle.satip_script.specs.InParts.{call_in}
use Rattle.satip_script.proofs.PartLemmas.{rtsp_asked}
use Rattle.satip_replay.proofs.RunLemmas.{form_answered}
use Rattle.satip_replay.proofs.running.answer_rtsp.Goals as goal

pub returns-clause-steps : goal.returns-clause-steps
returns-clause-steps c =
    form_answered (option_map Rtsp (call_in c.args.peer c.args.draw c.args.digits.now)) (Request c.args.peer c.args.draw c.read_request.new.into)
    c.args.server.now c.request.new.self (RepliedAnswer c.request.result) c.request.new.out
    (rtsp_asked c.args.peer c.args.draw (bytes_of c.args.digits.now) c.read_request.new.into c.if-not-read_request.ensures.asked)
    c.request.ensures.steps
