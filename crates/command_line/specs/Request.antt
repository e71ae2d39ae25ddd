-- The request of a command line, as a value without references.
use Rattle.std.specs.Prelude.{map, option_map}
use Rattle.command_line.specs.declared.request.CollectionRequest.{CollectionRequest}
use Rattle.command_line.specs.declared.request.Request.{Request}
use Rattle.command_line.specs.declared.request.Request.TheVariants as request
use Rattle.command_line.specs.declared.request.ServeRequest.{ServeRequest}
use Rattle.command_line.specs.CommandLines.{PlainCollection, PlainService, PlainRequest, Match, Check, Show, Make, Serve}

-- the collection, as a value without references
abbrev pub plain_collection : CollectionRequest → PlainCollection
plain_collection asked = record { id = asked.id; can_read = asked.can_read; can_write = asked.can_write; title = asked.title.now }

-- the service, as a value without references
abbrev pub plain_service : ServeRequest → PlainService
plain_service asked = record {
  port = asked.port;
  connections = asked.connections;
  store = option_map (λ file. file.now) asked.store;
  base = option_map (λ url. url.now) asked.base;
  collections = map plain_collection asked.collections;
}

-- the request, as a value without references
abbrev pub plain_request : Request → PlainRequest
plain_request (request.Match wanted) = Match wanted.whole wanted.retained_limit wanted.pattern.now
plain_request request.Check = Check
plain_request (request.Show pattern) = Show pattern.now
plain_request (request.Make seed count) = Make seed count
plain_request (request.Serve service) = Serve (plain_service service)
