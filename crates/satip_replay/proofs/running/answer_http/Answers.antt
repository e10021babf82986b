use Rattle.std.specs.Prelude.{option_map}
use Rattle.satip_plain.specs.declared.events.Event.TheVariants.{Get}
use Rattle.satip_plain.specs.declared.answers.Answer.TheVariants.{Get as GetAnswer}
use Rattle.satip_ts.specs.Digits.{bytes_of}
use Rattle.satip_script.specs.Forms.{Http}
use Rattle.satip_script.specs.InParts.{call_in}
use Rattle.satip_script.proofs.PartLemmas.{http_asked}
use Rattle.satip_replay.proofs.RunLemmas.{form_answered}
use Rattle.satip_replay.proofs.running.answer_http.Goals as goal

pub returns-clause-steps : goal.returns-clause-steps
returns-clause-steps c =
    form_answered (option_map Http (call_in c.args.peer c.args.draw c.args.digits.now)) (Get c.args.peer c.args.draw c.read_get.new.into)
    c.args.server.now c.get.new.self (GetAnswer c.get.result) c.get.new.out
    (http_asked c.args.peer c.args.draw (bytes_of c.args.digits.now) c.read_get.new.into c.if-not-read_get.ensures.asked)
    c.get.ensures.steps
