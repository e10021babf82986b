use Rattle.std.proofs.Common.{inl}
use Rattle.satip_tunnel.specs.Walk.{Draining}
use Rattle.satip_tunnel.proofs.DrawLemmas.{takes_one}
use Rattle.satip_tunnel.proofs.AskLemmas.{reply_sent, reply_lost, request_unmade, answers_then_all}
use Rattle.satip_tunnel.proofs.exchanges.exchange.Goals as goal

pub returns-in-Whole : goal.returns-in-Whole
returns-in-Whole g c = record {
  exchanges = record {
    draw = c.next-draw.result;
    takes = takes_one _ _ _ c.next-draw.ensures.drawn c.next-draw.ensures.next;
    comes = answers_then_all _ c.args.lane _ _ _ _ _ _ _ _ _
        (reply_sent _ c.args.lane _ _ _ _ c.next-draw.result c.args.request c.in-Ok._answer _ c.in-Ok.ensures.makes c.in-Whole.ensures.sends)
        (c.drain_all.ensures.drains Draining tt);
  };
}

pub returns-in-Failed : goal.returns-in-Failed
returns-in-Failed g c = record {
  exchanges = record {
    draw = c.next-draw.result;
    takes = takes_one _ _ _ c.next-draw.ensures.drawn c.next-draw.ensures.next;
    comes = reply_lost _ c.args.lane _ _ _ _ c.next-draw.result c.args.request c.in-Ok._answer _ c.in-Ok.ensures.makes c.in-Failed.ensures.sends;
  };
}

pub returns-in-Err : goal.returns-in-Err
returns-in-Err g c = record {
  exchanges = record {
    draw = c.next-draw.result;
    takes = takes_one _ _ _ c.next-draw.ensures.drawn c.next-draw.ensures.next;
    comes = inl (request_unmade _ c.args.lane _ _ _ c.in-Err.ensures.makes);
  };
}
