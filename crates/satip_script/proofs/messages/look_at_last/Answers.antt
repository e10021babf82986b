use Rattle.std.proofs.Common.{[], ◌++◌}
use Rattle.satip_script.proofs.TextLemmas.{fed_leads, last_message, unfinished_tells}
use Rattle.satip_script.proofs.messages.look_at_last.Goals as goal

pub returns-in-Message : goal.returns-in-Message
returns-in-Message c = record {
  sees = λ front last h one clean whole unfinished leads.
      last_message front last c.next.new.self one clean whole unfinished
      (c.in-Message.ensures.told (front ++ last) []
      (fed_leads front last c.args.framer.now.bytes c.feed_digits.new.framer.bytes leads (c.feed_digits.ensures.bytes last h)));
}

pub returns-in-More : goal.returns-in-More
returns-in-More c = record {
  sees = λ front last h one clean whole unfinished leads.
      unfinished_tells (front ++ last)
      (c.in-More.ensures.told (front ++ last) []
      (fed_leads front last c.args.framer.now.bytes c.feed_digits.new.framer.bytes leads (c.feed_digits.ensures.bytes last h))).0;
}

pub returns-in-Bad : goal.returns-in-Bad
returns-in-Bad c = record {
  sees = λ front last h one clean whole unfinished leads.
      (c.in-Bad.ensures.told (front ++ last) []
      (fed_leads front last c.args.framer.now.bytes c.feed_digits.new.framer.bytes leads (c.feed_digits.ensures.bytes last h))).0;
}

pub returns-in-TooLong : goal.returns-in-TooLong
returns-in-TooLong c = record {
  sees = λ front last h one clean whole unfinished leads.
      (c.in-TooLong.ensures.told (front ++ last) []
      (fed_leads front last c.args.framer.now.bytes c.feed_digits.new.framer.bytes leads (c.feed_digits.ensures.bytes last h))).0;
}
