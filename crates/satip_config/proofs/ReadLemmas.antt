-- A source that is read piece by piece.
use Rattle.std.proofs.Common.{◌≡◌, ℕ, ◌+◌, ◌≤◌, List, [], ◌++◌, length, take, append_assoc, append-nil, length-append, length-take, refl, sym, ◌∙◌, ap, arith}
use Rattle.satip_base.specs.Streams.{Feed, TookBytes, MetEnd, FailedToTake}
use Rattle.satip_config.specs.Reading.{Read, EndsWhole, EndsTooLong, EndsFailed, EndsWanting}

-- so much was read, within the limit
pub record Goes (tells : Type 0) (i j : Feed) (limit : ℕ) (text : List ℕ) : Type 0 where
  pub read : Read tells i j text
  pub short : length text ≤ limit
  pub faults : j.faults ≡ i.faults

-- nothing was read yet
pub goes_from : (tells : Type 0) (i : Feed) (limit : ℕ) → Goes tells i i limit []
goes_from tells i limit = record {
  read = record { taken = omega arith; content = λ _. refl };
  short = omega arith;
  faults = refl;
}

length-more : (text buf : List ℕ) (count : ℕ) → count ≤ length buf → length (text ++ take count buf) ≡ length text + count
length-more text buf count within = omega (arith, length-append text (take count buf), length-take count buf)

-- a piece was taken behind the text
read_more : (tells : Type 0) (i j k : Feed) (text buf : List ℕ) (count : ℕ) → Read tells i j text → TookBytes tells j k buf count
    → Read tells i k (text ++ take count buf)
read_more tells i j k text buf count read took = record {
  taken = omega (arith, read.taken, took.taken, took.within, length-append text (take count buf), length-take count buf);
  content = λ told.
      read.content told ∙ ap (λ (left : List ℕ). text ++ left) (took.content told) ∙ sym (append_assoc text (take count buf) k.left);
}

module _ (tells : Type 0) (i j k : Feed) (limit : ℕ) (text buf : List ℕ) (count : ℕ) (goes : Goes tells i j limit text) where
  pub goes_more : TookBytes tells j k buf count → length text + count ≤ limit → Goes tells i k limit (text ++ take count buf)
  goes_more took short = record {
    read = read_more tells i j k text buf count goes.read took;
    short = omega (arith, length-more text buf count took.within);
    faults = took.faults ∙ goes.faults;
  }

  pub ends_too_long : TookBytes tells j k buf count → length text + count ≡ limit + 1 → EndsTooLong tells i k limit
  ends_too_long took long = record {
    text = text ++ take count buf;
    read = read_more tells i j k text buf count goes.read took;
    long = length-more text buf count took.within ∙ long;
    faults = took.faults ∙ goes.faults;
  }

  pub ends_wanting : TookBytes tells j k buf count → length text + count ≤ limit → EndsWanting tells i k limit
  ends_wanting took short =
      let more = goes_more took short in
      record { text = text ++ take count buf; read = more.read; short = more.short; faults = more.faults }

module _ (tells : Type 0) (i j k : Feed) (limit : ℕ) (text : List ℕ) (goes : Goes tells i j limit text) where
  pub ends_whole : MetEnd tells j k → EndsWhole tells i k limit text
  ends_whole met = record {
    whole = record {
      taken = met.taken ∙ goes.read.taken;
      ended = met.after;
      faults = met.faults ∙ goes.faults;
      content = λ told. goes.read.content told ∙ ap (λ (left : List ℕ). text ++ left) (met.nothing_left told) ∙ append-nil text;
      nothing_left = met.content;
    };
    short = goes.short;
  }

  pub ends_failed : FailedToTake tells j k → EndsFailed tells i k limit
  ends_failed failed = record {
    text = text;
    read = record {
      taken = failed.taken ∙ goes.read.taken;
      content = λ told. goes.read.content told ∙ ap (λ (left : List ℕ). text ++ left) (sym (failed.content told));
    };
    short = goes.short;
    rose = rw (← goes.faults) failed.faults;
  }
