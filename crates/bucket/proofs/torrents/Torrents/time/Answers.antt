-- What keeps a table makes it sound.
use Rattle.bucket.specs.Index.{place_in}
use Rattle.bucket.proofs.SoundLemmas.{sound_by}
use Rattle.bucket.proofs.torrents.Torrents.time.Goals as goal

pub returns-clause-sound : goal.returns-clause-sound
returns-clause-sound c =
    let k = c.self.inside in
    rw (← c.self.view_is) (sound_by k.limits k.ring (place_in k.index) k.list.items c.self.invariant)
