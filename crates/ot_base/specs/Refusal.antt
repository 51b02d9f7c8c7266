-- What a refused client is told.
use Rattle.std.specs.Prelude.{ℕ, List, codes}
use Rattle.ot_base.specs.declared.refusal.Refusal.{Refusal}
use Rattle.ot_base.specs.declared.refusal.Refusal.TheVariants.{ConnectionId, Action, MissingHash}
use Rattle.ot_base.specs.declared.refusal.Refusal.TheVariants.{BadHash, MissingPort, BadPort}
use Rattle.ot_base.specs.declared.refusal.Refusal.TheVariants.{Denied, SwarmFull, TrackerFull}

abbrev pub refusal_text : Refusal → List ℕ
refusal_text ConnectionId = codes "bad connection id"
refusal_text Action = codes "unknown action"
refusal_text MissingHash = codes "missing info_hash"
refusal_text BadHash = codes "bad info_hash"
refusal_text MissingPort = codes "missing port"
refusal_text BadPort = codes "bad port"
refusal_text Denied = codes "not authorized"
refusal_text SwarmFull = codes "swarm is full"
refusal_text TrackerFull = codes "tracker is full"
