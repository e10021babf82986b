use Rattle.satip_ts.specs.Digits.{bytes_of}
use Rattle.satip_script.proofs.PartLemmas.{says_whole, says_broken}
use Rattle.satip_script.proofs.messages.says.Goals as goal

pub returns-in-Whole-clause-yes : goal.returns-in-Whole-clause-yes
returns-in-Whole-clause-yes c = says_whole (bytes_of c.args.digits.now) c.look_in.new.framer c.in-Whole.ensures.sees

pub returns-in-NotWhole-clause-yes : goal.returns-in-NotWhole-clause-yes
returns-in-NotWhole-clause-yes c = says_broken (bytes_of c.args.digits.now) c.look_in.new.framer c.in-NotWhole.field-0 c.in-NotWhole.ensures.sees
