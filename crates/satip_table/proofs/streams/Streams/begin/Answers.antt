use Rattle.std.proofs.Common.{◌≡◌, ◌∙◌, ◌+◌, ◌-◌, ◌<◌, List, length, set, ap, sym, subst, vec_len, rules, arith}
use Rattle.std.proofs.lemmas.List.{length-set}
use Rattle.satip_table.specs.Numbered.{numbered}
use Rattle.satip_table.specs.Placed.{is_there}
use Rattle.satip_table.specs.declared.stream.Stream.{Stream}
use Rattle.satip_table.specs.Placed.{in_order}
use Rattle.satip_table.specs.Numbered.{no_stream}
use Rattle.satip_table.specs.Living.{NumbersRise}
use Rattle.satip_table.specs.Streams.{fresh, gap, put_stream}
use Rattle.satip_table.proofs.OrderLaws.{insert_within}
use Rattle.satip_table.proofs.StreamPlaces.{begins, begun, fresh_at, fresh_number, numbers_set}
use Rattle.satip_table.proofs.streams.Streams.begin.Goals as goal

pub index_mut-requires : goal.index_mut-requires
index_mut-requires c =
    let rise : NumbersRise 0 (numbered c.self.inside) = subst (NumbersRise 0) (sym c.self.view_is) c.requires.rising in
    let at : c.args.number ≡ gap 1 (numbered c.self.inside) + 1 = c.requires.number ∙ ap (λ ss. gap 1 ss + 1) (sym c.self.view_is) in
    let room : length (numbered c.self.inside) < 64 = subst (λ (ss : List Stream). length ss < 64) (sym c.self.view_is) c.requires.room in
    let here = begins c.self.inside c.self.invariant c.args.number room rise at in
    let long : vec_len c.self.inside.streams ≡ length c.self.inside.streams.items = search rules in
    omega (arith, here.below, long, c.self.invariant.long)

pub insert-requires-clause-place : goal.insert-requires-clause-place
insert-requires-clause-place c =
    let rise : NumbersRise 0 (numbered c.self.inside) = subst (NumbersRise 0) (sym c.self.view_is) c.requires.rising in
    let at : c.args.number ≡ gap 1 (numbered c.self.inside) + 1 = c.requires.number ∙ ap (λ ss. gap 1 ss + 1) (sym c.self.view_is) in
    let room : length (numbered c.self.inside) < 64 = subst (λ (ss : List Stream). length ss < 64) (sym c.self.view_is) c.requires.room in
    let here = begins c.self.inside c.self.invariant c.args.number room rise at in
    here.within

pub insert-requires-clause-number : goal.insert-requires-clause-number
insert-requires-clause-number c =
    let rise : NumbersRise 0 (numbered c.self.inside) = subst (NumbersRise 0) (sym c.self.view_is) c.requires.rising in
    let at : c.args.number ≡ gap 1 (numbered c.self.inside) + 1 = c.requires.number ∙ ap (λ ss. gap 1 ss + 1) (sym c.self.view_is) in
    let room : length (numbered c.self.inside) < 64 = subst (λ (ss : List Stream). length ss < 64) (sym c.self.view_is) c.requires.room in
    let here = begins c.self.inside c.self.invariant c.args.number room rise at in
    here.below

pub invariant_of-self : goal.invariant_of-self
invariant_of-self c =
    let rise : NumbersRise 0 (numbered c.self.inside) = subst (NumbersRise 0) (sym c.self.view_is) c.requires.rising in
    let at : c.args.number ≡ gap 1 (numbered c.self.inside) + 1 = c.requires.number ∙ ap (λ ss. gap 1 ss + 1) (sym c.self.view_is) in
    let room : length (numbered c.self.inside) < 64 = subst (λ (ss : List Stream). length ss < 64) (sym c.self.view_is) c.requires.room in
    let here = begins c.self.inside c.self.invariant c.args.number room rise at in
    let made = fresh_at c.self.inside c.self.invariant c.args.number c.args.owner c.index_mut.result.now c.begin.new.stream here c.index_mut.ensures.value
    c.begin.ensures.fresh in
    let named : c.begin.new.stream.number ≡ c.args.number - 1 + 1 = ap (λ (s : Stream). s.number) made ∙ fresh_number c.args.number c.args.owner
    ∙ sym here.next in
    record {
      long = length-set c.self.inside.streams.items (c.args.number - 1) c.begin.new.stream ∙ c.self.invariant.long;
      numbers = numbers_set c.self.inside.streams.items (c.args.number - 1) c.begin.new.stream
          (omega (arith, here.below, c.self.invariant.long)) c.self.invariant.numbers named;
      within = λ place there. insert_within c.self.inside.order (c.args.number - 1) (c.args.number - 1) here.below c.self.invariant.within place
          (ap (is_there place) (sym c.insert.ensures.inserted) ∙ there);
    }

pub returns : goal.returns
returns c =
    let rise : NumbersRise 0 (numbered c.self.inside) = subst (NumbersRise 0) (sym c.self.view_is) c.requires.rising in
    let at : c.args.number ≡ gap 1 (numbered c.self.inside) + 1 = c.requires.number ∙ ap (λ ss. gap 1 ss + 1) (sym c.self.view_is) in
    let room : length (numbered c.self.inside) < 64 = subst (λ (ss : List Stream). length ss < 64) (sym c.self.view_is) c.requires.room in
    let here = begins c.self.inside c.self.invariant c.args.number room rise at in
    let made = fresh_at c.self.inside c.self.invariant c.args.number c.args.owner c.index_mut.result.now c.begin.new.stream here c.index_mut.ensures.value
    c.begin.ensures.fresh in
    record {
      put = ap (in_order no_stream (set c.self.inside.streams.items (c.args.number - 1) c.begin.new.stream)) c.insert.ensures.inserted
          ∙ begun c.self.inside c.self.invariant c.args.number c.args.owner c.begin.new.stream here rise at made (fresh_number c.args.number c.args.owner)
          ∙ ap (put_stream (fresh c.args.number c.args.owner)) c.self.view_is;
    }
