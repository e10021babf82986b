-- What a caller knows grows call by call.
use Rattle.std.proofs.Common.{List, [], ◌∷◌, ◌++◌, append_assoc, append-nil, refl, sym, ap, ◌∙◌, subst, inl, inr}
use Rattle.satip_plain.specs.Histories.{Item}
use Rattle.satip_plain.specs.Known.{Known, AreAmong, Adds, AddsNone, AddsAll}

-- no entry is among all
pub none_among : (es : List Item) → AreAmong [] es
none_among [] = refl
none_among (e ∷ es) = inl (none_among es)

-- all entries are among themselves
pub all_among : (es : List Item) → AreAmong es es
all_among [] = refl
all_among (e ∷ es) = inr (es, refl, all_among es)

-- and behind others
pub among_behind : (others new es : List Item) → AreAmong new es → AreAmong new (others ++ es)
among_behind [] new es among = among
among_behind (o ∷ os) new es among = inl (among_behind os new es among)

-- what is among two lists is among them together
pub among_both : (new more es fs : List Item) → AreAmong new es → AreAmong more fs → AreAmong (new ++ more) (es ++ fs)
among_both new more [] fs among rest =
    let P : List Item → Type 0 = λ xs. AreAmong (xs ++ more) fs in
    subst P (sym among) rest
among_both new more (e ∷ es) fs among rest = elim among [
  | inl later ↦ inl (among_both new more es fs later rest)
  | inr here ↦ inr (here.0 ++ more, ap (λ (xs : List Item). xs ++ more) here.1, among_both here.0 more es fs here.2 rest)
]

-- nothing was called yet
pub adds_nothing : (k : Known) → AddsAll k k []
adds_nothing k = record { more = []; seen = sym (append-nil k.seen); among = refl; own = sym (append-nil k.own) }

pub adds_then : (k l m : Known) (new more : List Item) → AddsAll k l new → AddsAll l m more → AddsAll k m (new ++ more)
adds_then k l m new more a b = record {
  more = a.more ++ b.more;
  seen = b.seen ∙ ap (λ (s : List Item). s ++ b.more) a.seen ∙ append_assoc k.seen a.more b.more;
  among = among_both new more a.more b.more a.among b.among;
  own = b.own ∙ ap (λ (s : List Item). s ++ more) a.own ∙ append_assoc k.own new more;
}

pub adds_one : (k l : Known) (new : Item) → Adds k l new → AddsAll k l (new ∷ [])
adds_one k l new a = record {
  more = a.between ++ new ∷ [];
  seen = a.seen ∙ append_assoc k.seen a.between (new ∷ []);
  among = among_behind a.between (new ∷ []) (new ∷ []) (all_among (new ∷ []));
  own = a.own;
}

pub adds_no_more : (k l : Known) → AddsNone k l → AddsAll k l []
adds_no_more k l a = record { more = a.more; seen = a.seen; among = none_among a.more; own = a.own ∙ sym (append-nil k.own) }
