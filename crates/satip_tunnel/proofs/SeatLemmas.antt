-- How a caller goes on, entries after entries.
use Rattle.std.proofs.Common.{List, [], ◌++◌, append_assoc, append-nil, refl, sym, ap, ◌∙◌}
use Rattle.satip_base.proofs.Prefixes.{begins_refl, begins_trans}
use Rattle.satip_plain.specs.declared.setting.Setting.{Setting}
use Rattle.satip_turn.specs.Shown.{Cell, Keeps, Turned, Looked}
use Rattle.satip_interleave.specs.Calling.{ShownPass}
use Rattle.satip_interleave.specs.Histories.{TunnelItem}
use Rattle.satip_tunnel.specs.Seats.{Seat, seated, Grows}

-- nothing was made yet
pub grows_none : (o : Seat) → Grows o o []
grows_none o = record {
  cell = refl;
  keeps = record { number = refl; kept = refl; made = refl };
  seen = begins_refl o.pass.seen;
  own = sym (append-nil o.pass.own);
}

-- some entries behind others
pub grows_then : (o m n : Seat) (xs ys : List TunnelItem) → Grows o m xs → Grows m n ys → Grows o n (xs ++ ys)
grows_then o m n xs ys a b = record {
  cell = b.cell ∙ a.cell;
  keeps = record {
    number = b.keeps.number ∙ a.keeps.number;
    kept = b.keeps.kept ∙ a.keeps.kept;
    made = b.keeps.made ∙ a.keeps.made;
  };
  seen = begins_trans o.pass.seen m.pass.seen n.pass.seen a.seen b.seen;
  own = b.own ∙ ap (λ (h : List TunnelItem). h ++ ys) a.own ∙ append_assoc o.pass.own xs ys;
}

-- the pass had the turn for these entries
pub grows_turned : (k : Cell Setting) (p q : ShownPass) (new : List TunnelItem) → Keeps p q → Turned p q new → Grows (seated k p) (seated k q) new
grows_turned k p q new keeps turned = record {
  cell = refl;
  keeps = keeps;
  seen = record {
    rest = turned.between ++ new;
    whole = turned.seen ∙ ap (λ (h : List TunnelItem). h ++ new) turned.looked ∙ append_assoc p.seen turned.between new;
  };
  own = turned.own;
}

-- it had the turn for none
pub grows_looked : (k : Cell Setting) (p q : ShownPass) → Keeps p q → Looked p q → Grows (seated k p) (seated k q) []
grows_looked k p q keeps looked = record {
  cell = refl;
  keeps = keeps;
  seen = record { rest = looked.between; whole = looked.seen ∙ looked.looked };
  own = looked.own ∙ sym (append-nil p.own);
}
