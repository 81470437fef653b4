-- What a Rust server stands for.
use Rattle.server_runtime.specs.declared.server.Server.{Server as Runtime}
use Rattle.server_runtime.specs.Serving.{Server}

abbrev pub server_of : Runtime → Server
server_of s = record {
  program = s.plan.program;
  split = s.plan.split;
  store = s.store;
  version = s.version;
  evaluated = s.evaluated;
}
