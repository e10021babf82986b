-- What was sent, and what waits behind it.
use Rattle.std.proofs.Common.{◌≡◌, ℕ, List, [], ◌++◌, append_assoc, append-nil, refl, sym, ◌∙◌, ap}
use Rattle.satip_base.specs.Streams.{Began}
use Rattle.satip_talk_command.specs.Gathering.{SentBut}

-- a beginning stays one when more is to come
pub began_longer : (before now all more : List ℕ) → Began before now all → Began before now (all ++ more)
began_longer before now all more began = record {
  part = began.part;
  rest = began.rest ++ more;
  whole = ap (λ (a : List ℕ). a ++ more) began.whole ∙ append_assoc began.part began.rest more;
  sent = began.sent;
}

-- nothing is left to send of a text
pub sent_nothing : (before : List ℕ) → SentBut before before [] []
sent_nothing before = record { part = []; whole = refl; sent = sym (append-nil before) }

-- where nothing waits the whole text was sent
pub sent_all : (before now text : List ℕ) → SentBut before now [] text → now ≡ before ++ text
sent_all before now text sent = sent.sent ∙ ap (λ (p : List ℕ). before ++ p) (sym (sent.whole ∙ append-nil sent.part))

-- what was sent is a beginning of the text
pub sent_began : (before now waiting text : List ℕ) → SentBut before now waiting text → Began before now text
sent_began before now waiting text sent = record { part = sent.part; rest = waiting; whole = sent.whole; sent = sent.sent }

-- more came behind what waits
pub sent_more : (before middle now old new text more : List ℕ) → SentBut before middle old text → SentBut middle now new (old ++ more)
    → SentBut before now new (text ++ more)
sent_more before middle now old new text more first second = record {
  part = first.part ++ second.part;
  whole = ap (λ (t : List ℕ). t ++ more) first.whole
      ∙ append_assoc first.part old more
      ∙ ap (λ (t : List ℕ). first.part ++ t) second.whole
      ∙ sym (append_assoc first.part second.part new);
  sent = second.sent ∙ ap (λ (s : List ℕ). s ++ second.part) first.sent ∙ append_assoc before first.part second.part;
}

-- a beginning of what waits, and of more behind it, was sent
pub sent_part_more : (before middle now old text more : List ℕ) → SentBut before middle old text → Began middle now (old ++ more)
    → Began before now (text ++ more)
sent_part_more before middle now old text more first second = record {
  part = first.part ++ second.part;
  rest = second.rest;
  whole = ap (λ (t : List ℕ). t ++ more) first.whole
      ∙ append_assoc first.part old more
      ∙ ap (λ (t : List ℕ). first.part ++ t) second.whole
      ∙ sym (append_assoc first.part second.part second.rest);
  sent = second.sent ∙ ap (λ (s : List ℕ). s ++ second.part) first.sent ∙ append_assoc before first.part second.part;
}

-- what waited was sent
pub sent_flushed : (before middle now old text : List ℕ) → SentBut before middle old text → now ≡ middle ++ old → SentBut before now [] text
sent_flushed before middle now old text first put = record {
  part = first.part ++ old;
  whole = first.whole ∙ sym (append-nil (first.part ++ old));
  sent = put ∙ ap (λ (s : List ℕ). s ++ old) first.sent ∙ append_assoc before first.part old;
}

-- what waited was sent in part
pub sent_part : (before middle now old text : List ℕ) → SentBut before middle old text → Began middle now old → Began before now text
sent_part before middle now old text first second = record {
  part = first.part ++ second.part;
  rest = second.rest;
  whole = first.whole ∙ ap (λ (t : List ℕ). first.part ++ t) second.whole ∙ sym (append_assoc first.part second.part second.rest);
  sent = second.sent ∙ ap (λ (s : List ℕ). s ++ second.part) first.sent ∙ append_assoc before first.part second.part;
}
