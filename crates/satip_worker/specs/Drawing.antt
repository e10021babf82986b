-- The draws of a worker: the words of one ChaCha20 stream, three for each draw.
use Rattle.std.specs.Prelude.{◌≡◌, ℕ, ◌+◌, ◌*◌, ◌%◌, ◌^◌, List}
use Rattle.rand_chacha.specs.ChaCha.{ChaCha, word_at, key_of}
use Rattle.satip_base.specs.declared.identity.Draw.{Draw}

-- the word at this place of a stream, under a key of 32 bytes; a stream repeats after 2 ^ 68 words
abbrev pub word : List ℕ → ℕ → ℕ → ℕ
word key stream place = word_at 10 (key_of key) stream (place % 2 ^ 68)

-- the draw of this number, counted from 0
abbrev pub draw_at : List ℕ → ℕ → ℕ → Draw
draw_at key stream number = record {
  word = word key stream (3 * number);
  ssrc = word key stream (3 * number + 1);
  first = word key stream (3 * number + 2) % 65536;
}

-- consecutive draws: the draw of each number, the number of the first of them, and the number after the last
pub record DrawRange : Type 0 where
  pub drawn : ℕ → Draw
  pub from : ℕ
  pub to : ℕ

-- the draws of a stream from this number up to that
abbrev pub draws_at : List ℕ → ℕ → (from to : ℕ) → DrawRange
draws_at key stream from to = record { drawn = draw_at key stream; from = from; to = to }

-- the generator before the draw of this number
abbrev pub before_draw : List ℕ → ℕ → ℕ → ChaCha
before_draw key stream number = record { key = key_of key; stream = stream; word_pos = (3 * number) % 2 ^ 68 }

-- the generator is before some draw of some stream
abbrev pub StandsBefore : ChaCha → Type 0
StandsBefore draws = (key : List ℕ) × (stream : ℕ) × (number : ℕ) × (draws ≡ before_draw key stream number)
