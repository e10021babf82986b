use Rattle.std.proofs.Common.{refl}
use Rattle.satip_rtsp.specs.Asked.{asked}
use Rattle.satip_script.specs.Texts.{request_of}
use Rattle.satip_ts.specs.Digits.{bytes_of}
use Rattle.satip_script.proofs.PartLemmas.{asks_whole, asks_broken}
use Rattle.satip_script.proofs.messages.read_request.Goals as goal

pub returns-in-Whole-clause-asked : goal.returns-in-Whole-clause-asked
returns-in-Whole-clause-asked c =
    asks_whole (bytes_of c.args.digits.now) c.look_in.new.framer asked request_of (λ m. refl) c.read_found_request.new.into c.in-Whole.ensures.sees
    c.read_found_request.ensures.asked

pub returns-in-NotWhole-clause-asked : goal.returns-in-NotWhole-clause-asked
returns-in-NotWhole-clause-asked c =
    asks_broken (bytes_of c.args.digits.now) c.look_in.new.framer c.in-NotWhole.cause request_of c.break_request.new.into c.in-NotWhole.ensures.sees
    c.break_request.ensures.broken
