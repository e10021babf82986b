pub mod WorkerScripts
