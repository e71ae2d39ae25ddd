-- What stands around a server when it ends, from what its parts say.
use Rattle.std.proofs.Common.{◌≡◌, ◌≤◌, ℕ, List, [], length, Option, Some, None, option_map, IfSome, refl, sym, ap, subst, ◌∙◌}
use Rattle.flow_edges.specs.Flow.{written_with}
use Rattle.taxii_rows.specs.StoreState.{StoreState}
use Rattle.taxii_rows.specs.Keeper.{Kept}
use Rattle.taxii_rows.specs.SoundRow.{IsSoundState}
use Rattle.taxii_exchange.specs.Statuses.{StatusesState}
use Rattle.taxii_service.specs.declared.state.State.{State}
use Rattle.taxii_store.specs.Agreement.{without_rows}
use Rattle.taxii_store.specs.History.{IsDated}
use Rattle.taxii_service.specs.Visits.{WalksSkipNoRow}
use Rattle.taxii_server.specs.Environment.{LinkView}
use Rattle.taxii_server.specs.Connections.{Pass}
use Rattle.taxii_server.specs.declared.server.Server.{Server}
use Rattle.taxii_server.specs.declared.served.Served.{Served}
use Rattle.taxii_server.specs.Serving.{Client, exchanges_of, HaveConnections}
use Rattle.command_line.specs.CommandLines.{PlainService}
use Rattle.command_run.specs.declared.serve_ending.ServeEnding.{ServeEnding}
use Rattle.command_run.specs.declared.serve_ending.ServeEnding.TheVariants.{Done, NoMemory, WriteFault, DoorFault, StoreFault, BadRow}
use Rattle.command_run.specs.Services.{store_name, Begins, ServiceEnvironment, Serves}
use Rattle.command_run.specs.ServeEndings.{serve_summary, ServesAll, EndsServe, ConcludesServing}

some_same : {A : Type 0} (observable : Option A) (one : A) → IfSome observable (λ kept. kept ≡ one) → IfSome observable (λ kept. one ≡ kept)
some_same None one is = tt
some_same (Some kept) one is = sym is

named_some : {A : Type 0} (observable : Option A) (name : Option (List ℕ)) (text : List ℕ) → name ≡ option_map (λ _. text) observable → IfSome observable (λ _. name ≡ Some text)
named_some None name text is = tt
named_some (Some kept) name text is = is

-- where rows were told before, those that are told now are told in their place
told_still : (before now : Option StoreState) (none last : StoreState) → option_map (λ (_ : StoreState). none) now ≡ option_map (λ (_ : StoreState). none) before
    → IfSome now (λ its. its ≡ last) → now ≡ option_map (λ (_ : StoreState). last) before
told_still None None none last same held = refl
told_still None (Some its) none last same held = absurd (cc same)
told_still (Some rows) None none last same held = absurd (cc same)
told_still (Some rows) (Some its) none last same held = ap Some held

dated : (store : StoreState) → IsSoundState store → IsDated store
dated store sound = record { ascend = sound.ascend; marked = sound.marked }

module _ {L : Type 0} (view : L → LinkView) (service : PlainService) (before after : ServiceEnvironment L) where
  pub concluded-ends : (served : Served) (ending : ServeEnding) → ServesAll view service before after served → ConcludesServing served before.written after.written ending
      → EndsServe view service before after ending
  concluded-ends served (Done observable) all ends = (subst (λ (it : Served). ServesAll view service before after it) (sym ends.0) all, subst (λ (it : Served). after.written ≡ written_with (serve_summary it) before.written) (sym ends.0) ends.1)
  concluded-ends served WriteFault all ends = (served, all, ends)
  concluded-ends served DoorFault all ends = absurd ends
  concluded-ends served NoMemory all ends = absurd ends
  concluded-ends served (StoreFault cause) all ends = absurd ends
  concluded-ends served (BadRow date) all ends = absurd ends

  pub serves-of : (server : Server) (last : State) (clients : List (Client L)) (kept : Kept) → Begins service kept server → kept.observable ≡ before.kept.observable
      → without_rows after.kept ≡ without_rows kept → HaveConnections view server.config server.state clients last → IfSome after.kept.observable (λ its. its ≡ last.library)
      → length clients ≤ service.connections → Pass (exchanges_of clients) before.around after.around
      → (IsDated server.state.library → WalksSkipNoRow server.config (exchanges_of clients)) → Serves view service before after clients
  serves-of server last clients kept begins same stays connections held few pass walks =
      let store = server.state.library in record {
        config = server.config;
        config_is = begins.config_is;
        store = store;
        loaded = subst (λ (it : Option StoreState). IfSome it (λ rows. store ≡ rows)) same (some_same kept.observable store begins.loaded.agrees.told_is);
        sound = begins.loaded.sound;
        named = named_some before.kept.observable after.kept.name (store_name service.store)
            (ap (λ (it : Kept). it.name) stays ∙ begins.loaded.named ∙ ap (λ (observable : Option StoreState). option_map (λ _. store_name service.store) observable) same);
        last = last;
        connections = subst (λ (it : StatusesState). HaveConnections view server.config (record { library = store; statuses = it }) clients last) begins.statuses connections;
        kept = told_still before.kept.observable after.kept.observable (record { rows = []; watermark = 0 }) last.library (ap (λ (it : Kept). it.observable) stays ∙ ap (option_map (λ _. record { rows = []; watermark = 0 })) same) held;
        few = few;
        pass = pass;
        walks = walks (dated store begins.loaded.sound);
      }
