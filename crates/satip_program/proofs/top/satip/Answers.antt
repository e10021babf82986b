use Rattle.std.proofs.Common.{rules, ◌≡◌, None, Some}
use Rattle.satip_program.specs.Commands.{Serve, Tunnel, Journal, command_of, serving_of}
use Rattle.satip_program.proofs.RunLemmas.{none_seen}
use Rattle.satip_program.proofs.ServiceLemmas.{none_viewed, serve_tells, service_back, service_ends, service_tells}
use Rattle.satip_program.proofs.top.satip.Goals as goal

pub returns-in-Some-Serve-clause-ends : goal.returns-in-Some-Serve-clause-ends
returns-in-Some-Serve-clause-ends g c =
    let is : serving_of c.args.words.now ≡ Some (Serve c.in-Some-Serve.name.now c.in-Some-Serve.accepts) = search rules in
    let only : command_of c.args.words.now ≡ None = search rules in
    rw only (rw is (service_ends _ (Serve _ _) _ _ _ _ _ _ _
    c.run_serve.ensures.ends c.run_serve.ensures.texts c.run_serve.ensures.handed (λ a. c.run_serve.ensures.journaled)
    (service_back (Serve _ _) _ (λ other. let never : ⊥ = cc in absurd never) (λ a. none_seen _ _ c.run_serve.ensures.no_tunnel)
    (none_seen _ _ c.run_serve.ensures.no_client.0, none_seen _ _ c.run_serve.ensures.no_client.1, none_seen _ _ c.run_serve.ensures.no_client.2)
    (λ a. none_viewed _ _ _ c.run_serve.ensures.no_journals))
    (serve_tells _ (Serve _ _) _ _ _ _ _ _ _ c.run_serve.ensures.ends.status_is c.run_serve.ensures.ends.input c.run_serve.ensures.logs)))

pub returns-in-Some-Tunnel-clause-ends : goal.returns-in-Some-Tunnel-clause-ends
returns-in-Some-Tunnel-clause-ends g c =
    let is : serving_of c.args.words.now ≡ Some (Tunnel c.in-Some-Tunnel.name.now c.in-Some-Tunnel.accepts) = search rules in
    let only : command_of c.args.words.now ≡ None = search rules in
    rw only (rw is (service_ends _ (Tunnel _ _) _ _ _ _ _ _ _
    c.run_tunnel.ensures.ends c.run_tunnel.ensures.texts c.run_tunnel.ensures.handed (λ a. c.run_tunnel.ensures.journaled)
    (service_back (Tunnel _ _) _ (λ a. none_seen _ _ c.run_tunnel.ensures.no_last) (λ other. let never : ⊥ = cc in absurd never)
    (none_seen _ _ c.run_tunnel.ensures.no_client.0, none_seen _ _ c.run_tunnel.ensures.no_client.1, none_seen _ _ c.run_tunnel.ensures.no_client.2)
    (λ a. none_viewed _ _ _ c.run_tunnel.ensures.no_journals))
    (serve_tells _ (Tunnel _ _) _ _ _ _ _ _ _ c.run_tunnel.ensures.ends.status_is c.run_tunnel.ensures.ends.input c.run_tunnel.ensures.logs)))

pub returns-in-Some-Journal-clause-ends : goal.returns-in-Some-Journal-clause-ends
returns-in-Some-Journal-clause-ends g c =
    let is : serving_of c.args.words.now ≡ Some (Journal c.in-Some-Journal.name.now c.in-Some-Journal.accepts) = search rules in
    let only : command_of c.args.words.now ≡ None = search rules in
    rw only (rw is (service_ends _ (Journal _ _) _ _ _ _ _ _ _
    c.run_journal.ensures.ends c.run_journal.ensures.texts c.run_journal.ensures.handed (λ other. let never : ⊥ = cc in absurd never)
    (service_back (Journal _ _) _ (λ other. let never : ⊥ = cc in absurd never) (λ a. none_seen _ _ c.run_journal.ensures.no_tunnel)
    (none_seen _ _ c.run_journal.ensures.no_client.0, none_seen _ _ c.run_journal.ensures.no_client.1, none_seen _ _ c.run_journal.ensures.no_client.2)
    (λ other. let never : ⊥ = cc in absurd never))
    (service_tells _ (Journal _ _) _ _ _ _ _ _ _ c.run_journal.ensures.of_journal (λ other is. let never : ⊥ = cc in absurd never)
    c.run_journal.ensures.input_fault c.run_journal.ensures.logs)))
