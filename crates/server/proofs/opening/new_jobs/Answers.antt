-- Each kind of jobs takes as much of the room, of the passes and of the clocks as there are jobs of it.
use Rattle.std.proofs.Common.{rules, ◌≡◌, ◌∙◌, ◌+◌, ◌++◌, ap, sym, append_assoc, length, arith}
use Rattle.std.specs.Vec.Iter.{into_iter_items}
use Rattle.server.proofs.TeamLemmas.{Stock, cleaner_long, link_long, stock_after, wire_long}
use Rattle.server.proofs.opening.new_jobs.Goals as goal

pub add_listener_jobs-room-requires-clause-room : goal.add_listener_jobs-room-requires-clause-room
add_listener_jobs-room-requires-clause-room g c =
    let devices = c.args.devices in
    let total = devices.clocks.len in
    let passes : into_iter_items c.into_iter-passes.result ≡ c.args.passes.items = search rules in
    let clocks : into_iter_items c.into_iter-clocks.result ≡ devices.clocks.items = search rules in
    let start : Stock 0 total c.args.room.items (into_iter_items c.into_iter-passes.result) (into_iter_items c.into_iter-clocks.result) = record {
      made = ap length c.requires.empty;
      passes_left = omega (arith, ap length passes, c.requires.passes, c.args.passes.ok.0);
      clocks_left = omega (arith, ap length clocks, devices.clocks.ok.0);
    } in
    let m = length devices.wires.items in
    let at_wires = c.add_wire_jobs-room.ensures.jobs in
    let then = stock_after 0 total m start at_wires (wire_long devices.wires.items at_wires.taken at_wires.jobs at_wires.added) in
    omega (arith, then.made, c.add_wire_jobs-room.result.ok.0, c.requires.room, c.add_wire_jobs-room.ensures.capacity, c.requires.clocks, devices.wires.ok.0, devices.listeners.ok.0)

pub add_listener_jobs-room-requires-clause-passes : goal.add_listener_jobs-room-requires-clause-passes
add_listener_jobs-room-requires-clause-passes g c =
    let devices = c.args.devices in
    let total = devices.clocks.len in
    let passes : into_iter_items c.into_iter-passes.result ≡ c.args.passes.items = search rules in
    let clocks : into_iter_items c.into_iter-clocks.result ≡ devices.clocks.items = search rules in
    let start : Stock 0 total c.args.room.items (into_iter_items c.into_iter-passes.result) (into_iter_items c.into_iter-clocks.result) = record {
      made = ap length c.requires.empty;
      passes_left = omega (arith, ap length passes, c.requires.passes, c.args.passes.ok.0);
      clocks_left = omega (arith, ap length clocks, devices.clocks.ok.0);
    } in
    let m = length devices.wires.items in
    let at_wires = c.add_wire_jobs-room.ensures.jobs in
    let then = stock_after 0 total m start at_wires (wire_long devices.wires.items at_wires.taken at_wires.jobs at_wires.added) in
    omega (arith, then.passes_left, c.requires.clocks, devices.wires.ok.0, devices.listeners.ok.0)

pub add_listener_jobs-room-requires-clause-clocks : goal.add_listener_jobs-room-requires-clause-clocks
add_listener_jobs-room-requires-clause-clocks g c =
    let devices = c.args.devices in
    let total = devices.clocks.len in
    let passes : into_iter_items c.into_iter-passes.result ≡ c.args.passes.items = search rules in
    let clocks : into_iter_items c.into_iter-clocks.result ≡ devices.clocks.items = search rules in
    let start : Stock 0 total c.args.room.items (into_iter_items c.into_iter-passes.result) (into_iter_items c.into_iter-clocks.result) = record {
      made = ap length c.requires.empty;
      passes_left = omega (arith, ap length passes, c.requires.passes, c.args.passes.ok.0);
      clocks_left = omega (arith, ap length clocks, devices.clocks.ok.0);
    } in
    let m = length devices.wires.items in
    let at_wires = c.add_wire_jobs-room.ensures.jobs in
    let then = stock_after 0 total m start at_wires (wire_long devices.wires.items at_wires.taken at_wires.jobs at_wires.added) in
    omega (arith, then.clocks_left, c.requires.clocks, devices.wires.ok.0, devices.listeners.ok.0)

pub add_cleaner-room-requires-clause-room : goal.add_cleaner-room-requires-clause-room
add_cleaner-room-requires-clause-room g c =
    let devices = c.args.devices in
    let total = devices.clocks.len in
    let passes : into_iter_items c.into_iter-passes.result ≡ c.args.passes.items = search rules in
    let clocks : into_iter_items c.into_iter-clocks.result ≡ devices.clocks.items = search rules in
    let start : Stock 0 total c.args.room.items (into_iter_items c.into_iter-passes.result) (into_iter_items c.into_iter-clocks.result) = record {
      made = ap length c.requires.empty;
      passes_left = omega (arith, ap length passes, c.requires.passes, c.args.passes.ok.0);
      clocks_left = omega (arith, ap length clocks, devices.clocks.ok.0);
    } in
    let m = length devices.wires.items in
    let at_wires = c.add_wire_jobs-room.ensures.jobs in
    let then = stock_after 0 total m start at_wires (wire_long devices.wires.items at_wires.taken at_wires.jobs at_wires.added) in
    let n = length devices.listeners.items in
    let at_listeners = c.add_listener_jobs-room.ensures.jobs in
    let next = stock_after (0 + m) total n then at_listeners (link_long devices.listeners.items at_listeners.taken at_listeners.jobs at_listeners.added) in
    omega (arith, next.made, c.add_listener_jobs-room.result.ok.0, c.requires.room, c.add_wire_jobs-room.ensures.capacity, c.add_listener_jobs-room.ensures.capacity, c.requires.clocks, devices.wires.ok.0, devices.listeners.ok.0)

pub add_cleaner-room-requires-clause-passes : goal.add_cleaner-room-requires-clause-passes
add_cleaner-room-requires-clause-passes g c =
    let devices = c.args.devices in
    let total = devices.clocks.len in
    let passes : into_iter_items c.into_iter-passes.result ≡ c.args.passes.items = search rules in
    let clocks : into_iter_items c.into_iter-clocks.result ≡ devices.clocks.items = search rules in
    let start : Stock 0 total c.args.room.items (into_iter_items c.into_iter-passes.result) (into_iter_items c.into_iter-clocks.result) = record {
      made = ap length c.requires.empty;
      passes_left = omega (arith, ap length passes, c.requires.passes, c.args.passes.ok.0);
      clocks_left = omega (arith, ap length clocks, devices.clocks.ok.0);
    } in
    let m = length devices.wires.items in
    let at_wires = c.add_wire_jobs-room.ensures.jobs in
    let then = stock_after 0 total m start at_wires (wire_long devices.wires.items at_wires.taken at_wires.jobs at_wires.added) in
    let n = length devices.listeners.items in
    let at_listeners = c.add_listener_jobs-room.ensures.jobs in
    let next = stock_after (0 + m) total n then at_listeners (link_long devices.listeners.items at_listeners.taken at_listeners.jobs at_listeners.added) in
    omega (arith, next.passes_left, c.requires.clocks, devices.wires.ok.0, devices.listeners.ok.0)

pub add_cleaner-room-requires-clause-clocks : goal.add_cleaner-room-requires-clause-clocks
add_cleaner-room-requires-clause-clocks g c =
    let devices = c.args.devices in
    let total = devices.clocks.len in
    let passes : into_iter_items c.into_iter-passes.result ≡ c.args.passes.items = search rules in
    let clocks : into_iter_items c.into_iter-clocks.result ≡ devices.clocks.items = search rules in
    let start : Stock 0 total c.args.room.items (into_iter_items c.into_iter-passes.result) (into_iter_items c.into_iter-clocks.result) = record {
      made = ap length c.requires.empty;
      passes_left = omega (arith, ap length passes, c.requires.passes, c.args.passes.ok.0);
      clocks_left = omega (arith, ap length clocks, devices.clocks.ok.0);
    } in
    let m = length devices.wires.items in
    let at_wires = c.add_wire_jobs-room.ensures.jobs in
    let then = stock_after 0 total m start at_wires (wire_long devices.wires.items at_wires.taken at_wires.jobs at_wires.added) in
    let n = length devices.listeners.items in
    let at_listeners = c.add_listener_jobs-room.ensures.jobs in
    let next = stock_after (0 + m) total n then at_listeners (link_long devices.listeners.items at_listeners.taken at_listeners.jobs at_listeners.added) in
    omega (arith, next.clocks_left, c.requires.clocks, devices.wires.ok.0, devices.listeners.ok.0)

pub add_sync_jobs-requires-clause-room : goal.add_sync_jobs-requires-clause-room
add_sync_jobs-requires-clause-room g c =
    let devices = c.args.devices in
    let total = devices.clocks.len in
    let passes : into_iter_items c.into_iter-passes.result ≡ c.args.passes.items = search rules in
    let clocks : into_iter_items c.into_iter-clocks.result ≡ devices.clocks.items = search rules in
    let start : Stock 0 total c.args.room.items (into_iter_items c.into_iter-passes.result) (into_iter_items c.into_iter-clocks.result) = record {
      made = ap length c.requires.empty;
      passes_left = omega (arith, ap length passes, c.requires.passes, c.args.passes.ok.0);
      clocks_left = omega (arith, ap length clocks, devices.clocks.ok.0);
    } in
    let m = length devices.wires.items in
    let at_wires = c.add_wire_jobs-room.ensures.jobs in
    let then = stock_after 0 total m start at_wires (wire_long devices.wires.items at_wires.taken at_wires.jobs at_wires.added) in
    let n = length devices.listeners.items in
    let at_listeners = c.add_listener_jobs-room.ensures.jobs in
    let next = stock_after (0 + m) total n then at_listeners (link_long devices.listeners.items at_listeners.taken at_listeners.jobs at_listeners.added) in
    let cleaner = c.add_cleaner-room.ensures.jobs in
    let last = stock_after (0 + m + n) total 1 next cleaner (cleaner_long cleaner.taken cleaner.jobs cleaner.added) in
    omega (arith, last.made, c.add_cleaner-room.result.ok.0, c.requires.room, c.add_wire_jobs-room.ensures.capacity, c.add_listener_jobs-room.ensures.capacity, c.add_cleaner-room.ensures.capacity, c.requires.clocks, devices.wires.ok.0, devices.listeners.ok.0)

pub add_sync_jobs-requires-clause-passes : goal.add_sync_jobs-requires-clause-passes
add_sync_jobs-requires-clause-passes g c =
    let devices = c.args.devices in
    let total = devices.clocks.len in
    let passes : into_iter_items c.into_iter-passes.result ≡ c.args.passes.items = search rules in
    let clocks : into_iter_items c.into_iter-clocks.result ≡ devices.clocks.items = search rules in
    let start : Stock 0 total c.args.room.items (into_iter_items c.into_iter-passes.result) (into_iter_items c.into_iter-clocks.result) = record {
      made = ap length c.requires.empty;
      passes_left = omega (arith, ap length passes, c.requires.passes, c.args.passes.ok.0);
      clocks_left = omega (arith, ap length clocks, devices.clocks.ok.0);
    } in
    let m = length devices.wires.items in
    let at_wires = c.add_wire_jobs-room.ensures.jobs in
    let then = stock_after 0 total m start at_wires (wire_long devices.wires.items at_wires.taken at_wires.jobs at_wires.added) in
    let n = length devices.listeners.items in
    let at_listeners = c.add_listener_jobs-room.ensures.jobs in
    let next = stock_after (0 + m) total n then at_listeners (link_long devices.listeners.items at_listeners.taken at_listeners.jobs at_listeners.added) in
    let cleaner = c.add_cleaner-room.ensures.jobs in
    let last = stock_after (0 + m + n) total 1 next cleaner (cleaner_long cleaner.taken cleaner.jobs cleaner.added) in
    omega (arith, last.passes_left, c.requires.clocks, devices.wires.ok.0, devices.listeners.ok.0)

pub add_sync_jobs-requires-clause-clocks : goal.add_sync_jobs-requires-clause-clocks
add_sync_jobs-requires-clause-clocks g c =
    let devices = c.args.devices in
    let total = devices.clocks.len in
    let passes : into_iter_items c.into_iter-passes.result ≡ c.args.passes.items = search rules in
    let clocks : into_iter_items c.into_iter-clocks.result ≡ devices.clocks.items = search rules in
    let start : Stock 0 total c.args.room.items (into_iter_items c.into_iter-passes.result) (into_iter_items c.into_iter-clocks.result) = record {
      made = ap length c.requires.empty;
      passes_left = omega (arith, ap length passes, c.requires.passes, c.args.passes.ok.0);
      clocks_left = omega (arith, ap length clocks, devices.clocks.ok.0);
    } in
    let m = length devices.wires.items in
    let at_wires = c.add_wire_jobs-room.ensures.jobs in
    let then = stock_after 0 total m start at_wires (wire_long devices.wires.items at_wires.taken at_wires.jobs at_wires.added) in
    let n = length devices.listeners.items in
    let at_listeners = c.add_listener_jobs-room.ensures.jobs in
    let next = stock_after (0 + m) total n then at_listeners (link_long devices.listeners.items at_listeners.taken at_listeners.jobs at_listeners.added) in
    let cleaner = c.add_cleaner-room.ensures.jobs in
    let last = stock_after (0 + m + n) total 1 next cleaner (cleaner_long cleaner.taken cleaner.jobs cleaner.added) in
    omega (arith, last.clocks_left, c.requires.clocks, devices.wires.ok.0, devices.listeners.ok.0)

pub returns : goal.returns
returns g c =
    let passes : into_iter_items c.into_iter-passes.result ≡ c.args.passes.items = search rules in
    let w = c.add_wire_jobs-room.ensures.jobs in
    let l = c.add_listener_jobs-room.ensures.jobs in
    let k = c.add_cleaner-room.ensures.jobs in
    let s = c.add_sync_jobs.ensures.jobs in
    record {
      at_wires = w.jobs;
      at_listeners = l.jobs;
      cleaners = k.jobs;
      sharers = s.jobs;
      jobs_are = s.room_is ∙ ap (λ r. r ++ s.jobs) (k.room_is ∙ ap (λ r. r ++ k.jobs) (l.room_is ∙ ap (λ r. r ++ l.jobs) (w.room_is ∙ ap (λ r. r ++ w.jobs) c.requires.empty)))
          ∙ append_assoc (w.jobs ++ l.jobs) k.jobs s.jobs ∙ append_assoc w.jobs l.jobs (k.jobs ++ s.jobs);
      wire_passes = w.taken;
      listener_passes = l.taken;
      cleaner_passes = k.taken;
      sharer_passes = s.taken;
      left = into_iter_items c.add_sync_jobs.new.passes;
      passes_are = sym passes ∙ w.passes_are ∙ ap (λ r. w.taken ++ r) (l.passes_are ∙ ap (λ r. l.taken ++ r) (k.passes_are ∙ ap (λ r. k.taken ++ r) s.passes_are));
      wire_jobs = w.added;
      listener_jobs = l.added;
      cleaner_job = k.added;
      sync_jobs = s.added;
    }
