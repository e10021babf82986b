-- SES1 texts that are kept with the views that they are of, and the reports that have them.
use Rattle.std.specs.Prelude.{◌≡◌, ℕ, ◌≤◌, List, ◌++◌, length}
use Rattle.satip_base.specs.Texts.{address_text}
use Rattle.satip_rtcp.specs.Ses1.{ses1}
use Rattle.satip_rtcp.specs.Reports.{application, sender_report, source_description}
use Rattle.satip_rtcp.specs.declared.views.StreamView.{StreamView}
use Rattle.satip_rtcp.specs.declared.views.Sender.{Sender}

-- the SES1 text of a view
pub record IsTextOf (view : StreamView) (bytes : List ℕ) : Type 0 where
  pub text : bytes ≡ ses1 view
  pub short : length bytes ≤ 1430

-- a report with this SES1 text
abbrev pub report_with : List ℕ → Sender → List ℕ
report_with text sender =
    sender_report sender ++ source_description sender.ssrc (address_text sender.address) ++ application sender.ssrc text
