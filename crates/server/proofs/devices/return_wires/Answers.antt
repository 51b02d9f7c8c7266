-- One more came back.
use Rattle.std.proofs.Common.{rules, ◌≡◌, ◌∙◌, ◌++◌, [], ◌∷◌, refl, sym, append_assoc, vec_len}
use Rattle.ot_io.specs.Traffic.{wire_tale}
use Rattle.ot_io.proofs.Runs.{Lends-refl}
use Rattle.server.proofs.DeviceLemmas.{back_more, one_out}
use Rattle.server.proofs.devices.return_wires.Goals as goal

pub loop-wire-init : goal.loop-wire-init
loop-wire-init g c = record {
  all = search rules;
  back = Lends-refl (g.N.Outside.wires_lent c.args.outside.now);
  others = refl;
  faults = refl;
}

pub loop-wire-preserved : goal.loop-wire-preserved
loop-wire-preserved g c =
    let was = c.loop-wire.invariant in
    let wire = c.in-Some.wire in
    let all : c.args.wires.items ≡ c.loop-wire.yielded ++ wire ∷ c.next.new.self.rest.items = search rules in
    let out = one_out (λ wire. wire_tale (g.W.Wire.traffic wire) (g.W.Wire.faults wire) (g.W.Wire.idles wire)) _ _ c.args.wires.items c.loop-wire.yielded c.next.new.self.rest.items wire (vec_len c.args.wires) (search rules) all c.requires.out was.back in
    let came = c.wire_back.ensures in record {
      all = all ∙ sym (append_assoc c.loop-wire.yielded (wire ∷ []) c.next.new.self.rest.items);
      back = back_more (λ wire. wire_tale (g.W.Wire.traffic wire) (g.W.Wire.faults wire) (g.W.Wire.idles wire)) _ _ _ c.loop-wire.yielded (wire ∷ []) (c.loop-wire.yielded ++ wire ∷ []) refl was.back (came.back out);
      others = came.listeners ∙ was.others;
      faults = came.faults ∙ was.faults;
    }
