-- What a job of a tunnel did to a fresh kit is what it has done.
use Rattle.std.proofs.Common.{◌≡◌, ◌≢◌, ℕ, ◌⊎◌, inl, inr, Bool, true, false, List, [], ◌∷◌, ◌++◌, map, length, sym, ap, ◌∙◌, subst}
use Rattle.std.proofs.lemmas.Bool.{false≢true}
use Rattle.satip_base.specs.Lists.{Each}
use Rattle.satip_base.proofs.Elements.{Each-append, each_follows}
use Rattle.satip_interleave.specs.Calling.{known_by, outers}
use Rattle.satip_plain.specs.Known.{Known}
use Rattle.satip_interleave.specs.Histories.{TunnelItem, inners}
use Rattle.satip_tunnel.specs.Seats.{Seat, SeesFull}
use Rattle.satip_turn.specs.Views.{row}
use Rattle.satip_world.specs.declared.doors.ConnEnd.TheVariants.{Spent as ConnSpent}
use Rattle.satip_world.specs.Halls.{Hall, Return, fresh_hall}
use Rattle.satip_worker.specs.declared.worker.WorkerEnd.{WorkerEnd}
use Rattle.satip_worker.specs.declared.worker.WorkerEnd.TheVariants.{Closed, DoorsFault, Spent, Want}
use Rattle.satip_worker.specs.Drawing.{draw_at}
use Rattle.satip_worker.specs.Ends.{is_unmade}
use Rattle.satip_worker.specs.WorkerRun.{WorkerEnds}
use Rattle.satip_jobs.specs.declared.end.ServeEnd.{ServeEnd}
use Rattle.satip_jobs.specs.declared.end.ServeEnd.TheVariants.{HistoryFull}
use Rattle.satip_serve.specs.Deeds.{job_state}
use Rattle.satip_serve.specs.Done.{EndsInTime}
use Rattle.satip_serve.specs.Ends.{end_of_worker}
use Rattle.satip_desk.specs.Fresh.{FreshPump, ReadOnce}
use Rattle.satip_desk.specs.Views.{WorkerView, PumpView, TickView}
use Rattle.satip_serve.proofs.Finishing.{not_zero, pump_done, ticker_done}
use Rattle.satip_tunnel.specs.WorkerRun.{ServesAll}
use Rattle.satip_tunnel.proofs.FullLemmas.{all_also}
use Rattle.satip_tunnel_serve.specs.Deeds.{DoorsTell, TunnelWorkerDid, TunnelPumpDid, TunnelTickerDid}
use Rattle.satip_tunnel_serve.specs.Done.{TunnelWorkerDone, TunnelPumpDone, TunnelTickerDone}

made_in_time : (full : Type 0) (r : Return) → is_unmade r.end ≡ false → EndsInTime full r
made_in_time full r made = (
  λ want. absurd (false≢true (sym made ∙ ap is_unmade want)),
  λ spent. absurd (false≢true (sym made ∙ ap is_unmade spent)),
)

spent_in_time : (full : Type 0) (r : Return) → r.end ≡ ConnSpent → full → EndsInTime full r
spent_in_time full r is then = (λ want. absurd (cc (is, want)), λ _. then)

record EndedInTime (full : Type 0) (hall : Hall) (returns : List Return) : Type 0 where
  ended : (hall.ended ≡ true) ⊎ ((hall.faults ≢ 0) ⊎ full)
  in_time : Each (EndsInTime full) returns

all_made : (full : Type 0) (returns : List Return) → Each (λ r. is_unmade r.end ≡ false) returns → Each (EndsInTime full) returns
all_made full returns made = each_follows (λ (r : Return). is_unmade r.end ≡ false) (EndsInTime full) (made_in_time full) returns made

worker_ended : (full : Type 0) (end : WorkerEnd) (accepts : ℕ) (told : Bool) (hall : Hall) (l : Known) (returns : List Return)
    → WorkerEnds end (fresh_hall accepts told) hall false l returns → (end ≡ Spent → l.length ≡ 18446744073709551615 → full) → EndedInTime full hall returns
worker_ended full Closed accepts told hall l returns ends fills = record { ended = inl ends.ended; in_time = all_made full returns ends.made }
worker_ended full DoorsFault accepts told hall l returns ends fills =
    record { ended = inr (inl (not_zero hall.faults ends.faults)); in_time = all_made full returns ends.made }
worker_ended full Spent accepts told hall l returns ends fills =
    let then = fills (λ i. Spent) ends.full in
    let last = ends.last in
    let all : Each (EndsInTime full) (last.before ++ last.last ∷ []) =
    Each-append (EndsInTime full) last.before (last.last ∷ []) (all_made full last.before last.made) (spent_in_time full last.last last.end_is then, tt) in
    record { ended = inr (inr then); in_time = subst (λ (rs : List Return). Each (EndsInTime full) rs) (sym last.returns_are) all }
worker_ended full Want accepts told hall l returns ends fills = absurd (false≢true ends.may)

-- a worker with fresh doors
pub worker_done : (tells : DoorsTell) (full cut : Type 0) (accepts number caller : ℕ) (told : Bool) (o n : WorkerView) (s t : Seat) (end : ServeEnd)
    → TunnelWorkerDid tells number o s n t end → o.hall ≡ fresh_hall accepts told → s.pass.own ≡ []
    → (length t.pass.seen ≡ 18446744073709551615 → full) → (end ≡ HistoryFull → length t.pass.seen ≡ 18446744073709551615 → cut)
    → TunnelWorkerDone tells.conn full cut accepts number n (row caller t.pass.own)
worker_done tells full cut accepts number caller told o n s t end did hall none fills cuts =
    let run = did.serves in
    let own : run.entries ≡ t.pass.own = sym (run.grows.own ∙ ap (λ (es : List TunnelItem). es ++ run.entries) none) in
    let ends = worker_ended cut did.ended accepts told n.hall (known_by t.pass) run.returns
    (subst (λ (h : Hall). WorkerEnds did.ended h n.hall false (known_by t.pass) run.returns) hall run.ends)
    (λ spent. cuts (did.end_is ∙ ap end_of_worker spent)) in
    let served : ServesAll tells.conn full (draw_at n.key number) 0 run.draws run.returns run.entries =
    subst (λ (key : List ℕ). ServesAll tells.conn full (draw_at key number) 0 run.draws run.returns run.entries) (sym did.key)
    (all_also (SeesFull t) full fills tells.conn (draw_at o.key number) 0 run.draws run.returns run.entries run.serves) in
    record {
      limit = run.limit ∙ ap (λ (h : Hall). h.limit) hall;
      ended = ends.ended;
      connections = run.returns;
      draws = run.draws;
      came = λ still. run.moved.given still ∙ ap (λ (h : Hall). h.given ++ map (λ (r : Return). record { kind = r.kind; peer = r.peer }) run.returns) hall;
      handed_back = λ still. run.moved.returned still ∙ ap (λ (h : Hall). h.returned ++ run.returns) hall;
      served = subst (λ (es : List TunnelItem). ServesAll tells.conn full (draw_at n.key number) 0 run.draws run.returns es) own served;
      in_time = ends.in_time;
    }

-- a pump with a fresh store
pub tunnel_pump_done : (cut : Type 0) (number caller : ℕ) (o n : PumpView) (s t : Seat) (end : ServeEnd)
    → TunnelPumpDid number o s n t end → FreshPump o → s.pass.own ≡ [] → (end ≡ HistoryFull → length t.pass.seen ≡ 18446744073709551615 → cut)
    → TunnelPumpDone cut number n (row caller t.pass.own)
tunnel_pump_done cut number caller o n s t end did fresh none cuts = record {
  done = pump_done ⊥ cut number caller (job_state o (known_by s.pass)) (job_state n (known_by t.pass)) end did.pumped fresh
      (ap (λ (es : List TunnelItem). inners es) none) cuts;
  none = did.others ∙ ap (λ (es : List TunnelItem). outers es) none;
}

-- the ticker with a clock that was read once
pub tunnel_ticker_done : (cut : Type 0) (start caller : ℕ) (o n : TickView) (s t : Seat) (end : ServeEnd)
    → TunnelTickerDid o s n t end → ReadOnce start o → s.pass.own ≡ []
    → (end ≡ HistoryFull → length t.pass.seen ≡ 18446744073709551615 → cut)
    → TunnelTickerDone cut start n (row caller t.pass.own)
tunnel_ticker_done cut start caller o n s t end did fresh none cuts = record {
  done = ticker_done ⊥ cut start caller (job_state o (known_by s.pass)) (job_state n (known_by t.pass)) end did.ticked fresh
      (ap (λ (es : List TunnelItem). inners es) none) cuts;
  none = did.others ∙ ap (λ (es : List TunnelItem). outers es) none;
}
