-- One more came back.
use Rattle.std.proofs.Common.{rules, ◌≡◌, ◌∙◌, ◌++◌, [], ◌∷◌, refl, sym, append_assoc, vec_len}
use Rattle.ot_io.specs.Tales.{listener_tale}
use Rattle.ot_io.proofs.Runs.{Lends-refl}
use Rattle.server.proofs.DeviceLemmas.{back_more, one_out}
use Rattle.server.proofs.devices.return_listeners.Goals as goal

pub loop-listener-init : goal.loop-listener-init
loop-listener-init g c = record {
  all = search rules;
  back = Lends-refl (g.N.Outside.listeners_lent c.args.outside.now);
  others = refl;
  faults = refl;
}

pub loop-listener-preserved : goal.loop-listener-preserved
loop-listener-preserved g c =
    let was = c.loop-listener.invariant in
    let listener = c.in-Some.listener in
    let all : c.args.listeners.items ≡ c.loop-listener.yielded ++ listener ∷ c.next.new.self.rest.items = search rules in
    let out = one_out (λ listener. listener_tale (g.L.Listener.links listener) (g.L.Listener.faults listener) (g.L.Listener.idles listener)) _ _ c.args.listeners.items c.loop-listener.yielded c.next.new.self.rest.items listener (vec_len c.args.listeners) (search rules) all c.requires.out was.back in
    let came = c.listener_back.ensures in record {
      all = all ∙ sym (append_assoc c.loop-listener.yielded (listener ∷ []) c.next.new.self.rest.items);
      back = back_more (λ listener. listener_tale (g.L.Listener.links listener) (g.L.Listener.faults listener) (g.L.Listener.idles listener)) _ _ _ c.loop-listener.yielded (listener ∷ []) (c.loop-listener.yielded ++ listener ∷ []) refl was.back (came.back out);
      others = came.wires ∙ was.others;
      faults = came.faults ∙ was.faults;
    }
