-- What the numbers and the words of the command line can't be.
use Rattle.std.proofs.Common.{◌≡◌, ℕ, true, false, List, refl, sym, subst}
use Rattle.std.specs.Prelude.{codes}
use Rattle.std.specs.Str.{bytes_eq}
use Rattle.std.proofs.lemmas.Slice.Eq.{bytes_eq-Decides}
use Rattle.satip_rtsp.proofs.CseqLemmas.{number_of-le}

-- how large a number is
pub ruleset accepts_fit = (number_of-le)

-- a word that is another text than "stress" isn't that
other : (word text : List ℕ) → bytes_eq text (codes "stress") ≡ false → bytes_eq word text ≡ true → bytes_eq word (codes "stress") ≡ false
other word text differs is =
    let same : word ≡ text = (bytes_eq-Decides word text).0 is in
    subst (λ (w : List ℕ). bytes_eq w (codes "stress") ≡ false) (sym same) differs

-- the words of the services are others than that of a stress run
pub serve_is_other : (word : List ℕ) → bytes_eq word (codes "serve") ≡ true → bytes_eq word (codes "stress") ≡ false
serve_is_other word is = other word (codes "serve") refl is

pub tunnel_is_other : (word : List ℕ) → bytes_eq word (codes "tunnel") ≡ true → bytes_eq word (codes "stress") ≡ false
tunnel_is_other word is = other word (codes "tunnel") refl is

pub journal_is_other : (word : List ℕ) → bytes_eq word (codes "journal") ≡ true → bytes_eq word (codes "stress") ≡ false
journal_is_other word is = other word (codes "journal") refl is

pub ruleset words_differ = (serve_is_other, tunnel_is_other, journal_is_other)
