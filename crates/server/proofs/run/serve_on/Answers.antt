-- There are few jobs.
use Rattle.std.proofs.Common.{arith}
use Rattle.server.proofs.RunLemmas.{few_jobs}
use Rattle.server.proofs.run.serve_on.Goals as goal

pub open_shards-requires-clause-few : goal.open_shards-requires-clause-few
open_shards-requires-clause-few g c =
    let settings = c.args.settings.now in
    let devices = c.requires.devices in
    omega (arith, few_jobs settings.workers settings.udp settings.http settings.sync c.requires.can.few_workers, devices.clock_count, devices.wire_count, devices.listener_count, devices.sync_wire_count)
