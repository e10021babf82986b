use Rattle.std.proofs.Common.{◌∙◌, refl, ap, length}
use Rattle.satip_rtp.specs.Bytes.{rtp_header}
use Rattle.satip_rtp.proofs.HeldLemmas.{header_put}
use Rattle.satip_rtp.proofs.packer.write_header.Goals as goal

-- each piece stands behind the one before it
pub returns : goal.returns
unfolding rtp_header
returns c =
    let kind = c.copy_from_slice.ensures.after in
    let number = c.copy_from_slice-2.ensures.after ∙ c.to_be_bytes.ensures in
    let time = c.copy_from_slice-3.ensures.after ∙ c.to_be_bytes-2.ensures in
    let source = c.copy_from_slice-4.ensures.after ∙ c.to_be_bytes-3.ensures in
    let whole = header_put c.args.bytes.now _ _ _ _ (ap length kind) (ap length number) (ap length time) in
    record { header = whole ∙ rw (kind, number, time, source, c.timestamp_of.ensures.timestamp) refl }
