use Rattle.std.proofs.Common.{rules, ◌≡◌}
use Rattle.sync_wire.specs.Batches.{batch_len_of}
use Rattle.sync_wire.proofs.Fronts.{batch_len-fits, batch_len-family, batch_len-longest}
use Rattle.sync_wire.proofs.batch.batch_len.Goals as goal

pub returns-in-len1-up-clause-fits : goal.returns-in-len1-up-clause-fits
returns-in-len1-up-clause-fits c =
    let value : c.front_of.result ≡ batch_len_of c.args.notes.now = search rules in
    rw value (batch_len-fits c.args.notes.now).0

pub returns-in-len1-up-clause-within : goal.returns-in-len1-up-clause-within
returns-in-len1-up-clause-within c =
    let value : c.front_of.result ≡ batch_len_of c.args.notes.now = search rules in
    rw value (batch_len-fits c.args.notes.now).1

pub returns-in-len1-up-clause-family : goal.returns-in-len1-up-clause-family
returns-in-len1-up-clause-family c =
    let value : c.front_of.result ≡ batch_len_of c.args.notes.now = search rules in
    rw value (batch_len-family c.args.notes.now)

pub returns-in-len1-up-clause-longest : goal.returns-in-len1-up-clause-longest
returns-in-len1-up-clause-longest c =
    let value : c.front_of.result ≡ batch_len_of c.args.notes.now = search rules in
    rw value (batch_len-longest c.args.notes.now)
