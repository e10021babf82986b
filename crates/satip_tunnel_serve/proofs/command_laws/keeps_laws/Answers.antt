use Rattle.satip_interleave.specs.Calling.{inners_short}
use Rattle.satip_tunnel_serve.proofs.command_laws.keeps_laws.Goals as goal

pub returns-clause-recordings : goal.returns-clause-recordings
returns-clause-recordings c =
    λ caller front tune recording due early of pumps.
    c.packets_are_of_recordings.ensures.law _ _ caller front tune recording due early c.requires.lawful.inner
    (inners_short c.args.pass.now.seen c.requires.short) of pumps

pub returns-clause-channels : goal.returns-clause-channels
returns-clause-channels c =
    λ m x ports frames has rtsp channels first. c.channels_carry_payload.ensures.law _ _ m x ports frames c.requires.lawful has rtsp channels first
