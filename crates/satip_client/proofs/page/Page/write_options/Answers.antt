use Rattle.std.proofs.Common.{ℕ, List, ◌++◌, codes, decimal, ap, ◌∙◌}
use Rattle.satip_client.specs.Requests.{head_end, numbered, options_request, session_header}
use Rattle.satip_client.proofs.page.Page.write_options.Goals as goal

pub returns-clause-request : goal.returns-clause-request
unfolding options_request
returns-clause-request c =
    let before = c.write.ensures.text ∙ ap (λ (t : List ℕ). t ++ codes "OPTIONS rtsp://") c.clear.ensures.text in
    let host = c.write-2.ensures.text ∙ ap (λ (t : List ℕ). t ++ c.address-address.result.now) before in
    let line = c.write-3.ensures.text ∙ ap (λ (t : List ℕ). t ++ (codes "/" ++ numbered)) host in
    let number = c.write_number.ensures.text ∙ ap (λ (t : List ℕ). t ++ decimal c.args.cseq) line in
    let header = c.write-4.ensures.text ∙ ap (λ (t : List ℕ). t ++ session_header) number in
    let session = c.write-5.ensures.text ∙ ap (λ (t : List ℕ). t ++ c.session.result.now) header in
    c.write-6.ensures.text ∙ ap (λ (t : List ℕ). t ++ head_end) session
    ∙ ap (λ (a : List ℕ). options_request a c.args.cseq c.session.result.now) c.address-address.ensures.address
    ∙ ap (λ (s : List ℕ). options_request c.args.self.now.address c.args.cseq s) c.session.ensures.session
